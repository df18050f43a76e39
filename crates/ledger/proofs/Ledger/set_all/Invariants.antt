-- The desks before this one have the figure, and the rest stands.
use Rattle.std.proofs.Common.{◌≡◌}
use Rattle.ledger.specs.Changes.{Shape}
use Rattle.ledger.proofs.Places.{Upto}
use Rattle.ledger.proofs.Ledger.set_all.Given as goal

abbrev pub invariant-loop-desk : goal.invariant-loop-desk
invariant-loop-desk l = record {
  settled : Upto l.initial.self l.figure l.value l.desk l.self;
  counts : l.self.counts ≡ l.initial.self.counts;
  shape : Shape l.initial.self l.self;
}
