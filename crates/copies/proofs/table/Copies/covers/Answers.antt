use Rattle.std.proofs.Common.{sym, ap, ◌∙◌, w64, SFits, to_z, of_z, rules}
use lib.Signed.{le_z}
use Rattle.std.proofs.lemmas.Int.{to_z-of_z}
use Rattle.ledger.specs.Figures.{figures}
use Rattle.ledger.proofs.Listed.{get_or_figures}
use Rattle.copies.specs.Entries.{covers}
use Rattle.copies.proofs.table.Copies.covers.Goals as goal

pub returns-in-Some : goal.returns-in-Some
returns-in-Some g c =
    let a : SFits w64 c.args.movement.amount = search rules in
    let f : SFits w64 c.figure.result = search rules in
    ap (λ y. le_z y (to_z w64 (of_z w64 c.figure.result))) (to_z-of_z w64 c.args.movement.amount a)
    ∙ ap (le_z c.args.movement.amount) (to_z-of_z w64 c.figure.result f ∙ c.figure.ensures ∙ sym (get_or_figures c.args.self.now.ledger c.args.desk c.in-Some.from))
    ∙ sym (ap (λ p. covers p c.args.movement.amount (figures c.args.self.now.ledger c.args.desk)) c.in-Some.is)
