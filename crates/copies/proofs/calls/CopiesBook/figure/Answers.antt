use Rattle.std.proofs.Common.{◌≡◌, ◌≤◌, false, leb, nat_abs, Ok, sym, ap, ◌∙◌, subst, w64, SFits, rules}
use Rattle.std.proofs.lemmas.Int.{to_z-of_z}
use Rattle.std.proofs.lemmas.Bool.{lt-leb}
use Rattle.desks.proofs.Passed.{passed}
use Rattle.ledger.proofs.Listed.{get_or_figures}
use Rattle.copies.specs.Model.{copies_sound}
use Rattle.copies.proofs.calls.CopiesBook.figure.Goals as goal

pub returns : goal.returns
returns g c =
    let m = g.E.Entry.model in
    let b = c.args.self.now in
    let fits : SFits w64 c.figure.result = search rules in
    let z = to_z-of_z w64 c.figure.result fits ∙ c.figure.ensures ∙ sym (get_or_figures b.ledger c.args.desk c.args.figure) in
    let d : leb b.ledger.desks c.args.desk ≡ false = passed _ _ c.in_ok-check_desk.ensures in
    let i : leb (m.rules b.ledger.desks).width c.args.figure ≡ false = lt-leb (m.rules b.ledger.desks).width c.args.figure (rw (c.width.ensures, b.sized.1) at c.if-figure-width.false) in
    record {
      value = rw (d, i) (ap (λ y. Ok y) z);
      within = subst (λ y. nat_abs y ≤ m.limit) (sym z) ((copies_sound g.E.Entry b).within c.args.desk c.args.figure);
    }
