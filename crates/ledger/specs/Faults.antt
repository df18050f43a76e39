-- Why a figure or a count stays as it is: the tests of each call, in order.
use Rattle.std.specs.Prelude.{ℕ, ◌+◌, ◌*◌, ◌^◌, ◌-◌, Bool, ◌||◌, [], ◌∷◌, ◌++◌, ℤ, pos, negsuc, ◌+ℤ◌, int_lt, not, nat_le, ◌==◌}
use Rattle.desks.specs.Firsts.{Tests}
use Rattle.cells.specs.Cell.{there}
use Rattle.cells.specs.declared.CellFault.TheVariants.{Absent}
use Rattle.ledger.specs.declared.Ledger.{Ledger}
use Rattle.ledger.specs.declared.LedgerFault.{LedgerFault}
use Rattle.ledger.specs.declared.LedgerFault.TheVariants.{Desk, Figure, Cell, Sum, Uncounted, Full}
use Rattle.ledger.specs.Figures.{figure_at, count_at}

-- why desk d has no index
abbrev pub desk_tests : Ledger → ℕ → Tests LedgerFault
desk_tests l d = (nat_le l.desks d, Desk) ∷ []

-- why figure i of it has no place
abbrev pub place_tests : Ledger → ℕ → ℕ → Tests LedgerFault
place_tests l d i = desk_tests l d ++ (nat_le l.width i, Figure) ∷ []

-- why it is not set
abbrev pub set_tests : Ledger → ℕ → ℕ → Tests LedgerFault
set_tests l d i = place_tests l d i ++ (not (there l.cells (d * l.width + i)), Cell Absent) ∷ []

-- z is no signed 64-bit number
abbrev pub too_large : ℤ → Bool
too_large z = int_lt z (negsuc (2 ^ 63 - 1)) || int_lt (pos (2 ^ 63 - 1)) z

-- why it does not change by z
abbrev pub add_tests : Ledger → ℕ → ℕ → ℤ → Tests LedgerFault
add_tests l d i z = (too_large (figure_at l d i +ℤ z), Sum) ∷ set_tests l d i

-- why desk d has no count
abbrev pub count_tests : Ledger → ℕ → Tests LedgerFault
count_tests l d = desk_tests l d ++ (nat_le 16 d, Uncounted) ∷ []

-- why its count does not go up
abbrev pub raise_tests : Ledger → ℕ → Tests LedgerFault
raise_tests l d = count_tests l d ++ (count_at l d == 65535, Full) ∷ []
