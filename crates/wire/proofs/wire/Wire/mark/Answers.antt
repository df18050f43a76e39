-- The frame that stands at the place is replaced by one that the desk took too.
use Rattle.std.proofs.Common.{◌≡◌, Some, refl, arith}
use Rattle.lent_log.specs.Entries.{entry_at}
use Rattle.wire.proofs.Kept.{marking}
use Rattle.wire.proofs.wire.Wire.mark.Goals as goal

pub returns-clause-change : goal.returns-clause-change
returns-clause-change c =
    let w = c.args.self.now in
    let s : entry_at w.log c.args.place ≡ Some c.in_ok-sent.sent = grind (arith, c.in_ok-sent.ensures) in
    marking w _ c.args.place c.args.desk c.in_ok-sent.sent c.taken_by.result c.replace.result refl (omega arith) s c.taken_by.ensures c.replace.ensures.stood c.replace.ensures.change
