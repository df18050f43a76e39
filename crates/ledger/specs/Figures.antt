-- The figures and counts that a ledger holds, as numbers.
use Rattle.std.specs.Prelude.{◌≡◌, ℕ, ◌+◌, ◌*◌, ◌≤◌, Bool, cond, ◌&&◌, List, [], map, length, ℤ, pos, Some, None, Option, ◌==◌, nat_lt, slice_index}
use Rattle.std.specs.Int.{w64}
use Rattle.std.proofs.Common.{to_z}
use Rattle.std.specs.List.{range_with_len}
use Rattle.std.specs.Int.Digits.{number_from_digits}
use Rattle.cells.specs.Cell.{there, cell}
use Rattle.ledger.specs.declared.Ledger.{Ledger}

-- the signed number that eight bytes write, high byte first
abbrev pub value_of : List ℕ → ℤ
value_of x = cond (length x == 8) (to_z w64 (number_from_digits 256 x)) (pos 0)

-- the same of bytes that may be absent
abbrev pub value_in : Option (List ℕ) → ℤ
value_in None = pos 0
value_in (Some x) = value_of x

-- desk d and figure i are the ledger's
abbrev pub known : Ledger → ℕ → ℕ → Bool
known l d i = nat_lt d l.desks && nat_lt i l.width

-- figure i of desk d, and 0 where there is none
abbrev pub figure_at : Ledger → ℕ → ℕ → ℤ
figure_at l d i = cond (known l d i) (value_in (cell l.cells (d * l.width + i))) (pos 0)

-- the figures of desk d, in order
abbrev pub figures : Ledger → ℕ → List ℤ
figures l d = cond (nat_lt d l.desks) (map (figure_at l d) (range_with_len 0 l.width)) []

-- the count of desk d, and 0 where there is none
abbrev pub count_at : Ledger → ℕ → ℕ
count_at l d = cond (nat_lt d l.desks) (slice_index l.counts d) 0

-- the lent bytes
abbrev pub memory_of : Ledger → List ℕ
memory_of l = l.cells.bytes.now

-- a figure is known, and the memory holds it
abbrev pub reaches : Ledger → ℕ → ℕ → Bool
reaches l d i = known l d i && there l.cells (d * l.width + i)

-- the memory holds every figure, and there is a count for every desk
abbrev pub Whole : Ledger → Type 0
Whole l = (l.cells.width ≡ 8) × (l.desks ≤ 16) × (l.desks * l.width * 8 ≤ length (memory_of l))
