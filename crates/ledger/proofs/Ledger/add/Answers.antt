-- What is set is the figure and the change, as the 64-bit numbers that they are.
use Rattle.std.proofs.Common.{◌≡◌, ◌+ℤ◌, ap, ◌∙◌, subst, w64, SFits, to_z, of_z, rules}
use Rattle.std.proofs.lemmas.Int.{to_z-of_z}
use Rattle.std.specs.Result.{is_ok, result_ok}
use Rattle.ledger.specs.Figures.{figure_at}
use Rattle.ledger.specs.Changes.{Set}
use Rattle.ledger.proofs.Ledger.add.Goals as goal

pub returns-clause-change : goal.returns-clause-change
returns-clause-change c =
    let z = figure_at c.args.self.now c.args.desk c.args.figure +ℤ c.args.change in
    let e = c.ok_or.ensures.ok_part ∙ ap result_ok c.in_ok-sum.was in
    let h = rw e at c.checked_add.ensures in
    let r : SFits w64 c.figure.result = search rules in
    let s : to_z w64 (of_z w64 c.figure.result) +ℤ to_z w64 (of_z w64 c.args.change) ≡ z = cc (to_z-of_z w64 c.figure.result r, to_z-of_z w64 c.args.change c.ranges.change, c.figure.ensures) in
    let p : SFits w64 z = subst (SFits w64) s h.0 in
    let w : to_z w64 (of_z w64 c.in_ok-sum.sum) ≡ z = cc (to_z-of_z w64 z p, h.1, s) in
    record {
      fitting = λ f. subst (λ y. Set c.args.self.now c.args.desk c.args.figure y (is_ok c.set.result) c.set.new.self) w c.set.ensures.change;
      too_large = λ n. absurd (n p);
    }
