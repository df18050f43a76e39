-- Bounds on a ledger that grow with its counts. Assumes nothing.
use Rattle.std.specs.Prelude.{ℕ, ◌+◌, ◌*◌, ◌≤◌, unsigned_abs}
use Rattle.ledger.specs.declared.Ledger.{Ledger}
use Rattle.ledger.specs.Figures.{figure_at, count_at}

-- no figure lies beyond what its desk may open with and a step for each item that it counts
abbrev pub Within : ℕ → ℕ → Ledger → Type 0
Within opening step l = (d i : ℕ) → unsigned_abs (figure_at l d i) ≤ opening + step * count_at l d

-- no desk counts more items
abbrev pub Counted : ℕ → Ledger → Type 0
Counted most l = (d : ℕ) → count_at l d ≤ most
