-- Zeroed memory makes every figure 0, and zeroed counts every count.
use Rattle.std.proofs.Common.{rules}
use Rattle.ledger.proofs.Places.{zero_figure, zero_count, zero_whole}
use Rattle.ledger.proofs.Ledger.new.Goals as goal

pub returns : goal.returns
returns c = search (rules, zero_figure, zero_count 16, zero_whole)
