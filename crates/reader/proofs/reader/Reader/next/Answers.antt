use Rattle.std.proofs.Common.{sym, ◌∙◌, arith}
use Rattle.std.proofs.lemmas.Grind.{common_steps}
use Rattle.reader.proofs.Standing.{stands, is_read}
use Rattle.reader.proofs.reader.Reader.next.Goals as goal

pub returns-clause-answer : goal.returns-clause-answer
returns-clause-answer c = grind (arith, common_steps)

pub returns-clause-stands : goal.returns-clause-stands
returns-clause-stands c d e =
    (stands _ _ _ d c.args.self.now.bytes (sym (returns-clause-answer c) ∙ e), grind (arith, common_steps))

pub returns-clause-found : goal.returns-clause-found
returns-clause-found c d h = returns-clause-answer c ∙ is_read _ _ _ d h
