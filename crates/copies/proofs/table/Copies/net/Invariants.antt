use Rattle.std.proofs.Common.{◌≡◌, ◌*◌, ◌≤◌, take, nat_abs}
use Rattle.ledger.specs.Figures.{figures}
use Rattle.book.specs.Rules.{total}
use Rattle.copies.proofs.table.Copies.net.Given as goal

abbrev pub invariant-loop-figure : goal.invariant-loop-figure
invariant-loop-figure g l = (l.net ≡ total (take l.figure (figures l.self.ledger l.desk))) × (nat_abs l.net ≤ l.figure * g.E.Entry.model.limit)
