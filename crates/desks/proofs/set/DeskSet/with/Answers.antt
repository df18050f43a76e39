use Rattle.std.proofs.Common.{ap, ◌∙◌, rules}
use lib.Bits.{bit_or}
use Rattle.std.proofs.lemmas.Nat.{one_shl}
use Rattle.desks.specs.Sets.{has_desk}
use Rattle.desks.proofs.Joining.{joined, none_joined}
use Rattle.desks.proofs.set.DeskSet.with.Goals as goal

pub returns-then-desk-lt16 : goal.returns-then-desk-lt16
returns-then-desk-lt16 c = λ q. ap (λ k. has_desk (bit_or c.args.self.bits k) q) (one_shl c.args.desk 16 (search rules)) ∙ joined c.args.self.bits c.args.desk q

pub returns-else-desk-lt16 : goal.returns-else-desk-lt16
returns-else-desk-lt16 c = λ q. none_joined c.args.self.bits c.args.desk q (search rules)
