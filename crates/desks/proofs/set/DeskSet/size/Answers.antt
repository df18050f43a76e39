use Rattle.desks.proofs.Bits.{size_is}
use Rattle.std.proofs.Common.{rules}
use Rattle.desks.proofs.set.DeskSet.size.Goals as goal

pub returns : goal.returns
returns c = size_is c.args.self.bits (search rules)
