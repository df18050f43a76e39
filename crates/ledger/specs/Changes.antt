-- A ledger as it is made, and what each change of a ledger leaves.
use Rattle.std.specs.Prelude.{◌≡◌, ℕ, ◌+◌, ◌*◌, ◌<◌, ◌≤◌, Bool, true, false, cond, ◌&&◌, List, length, drop, replicate, ℤ, pos, ◌+ℤ◌, FitsSigned, ◌==◌, nat_lt}
use Rattle.std.specs.Int.{w64}
use Rattle.std.specs.Borrow.{MutBor}
use Rattle.ledger.specs.declared.Ledger.{Ledger}
use Rattle.ledger.specs.Figures.{figure_at, count_at, memory_of, known, reaches, Whole}

-- a new ledger over memory m: every byte, figure and count is 0
pub record Made (n w : ℕ) (m : MutBor (List ℕ)) (l : Ledger) : Type 0 where
  pub desks : l.desks ≡ n
  pub width : l.width ≡ w
  pub zero : memory_of l ≡ replicate (length m.now) 0
  pub memory : l.cells.bytes.ghost_name ≡ m.ghost_name
  pub counts : (d : ℕ) → count_at l d ≡ 0
  pub figures : (d i : ℕ) → figure_at l d i ≡ pos 0
  pub whole : n ≤ 16 → n * w * 8 ≤ length m.now → Whole l

-- all but the figures and counts is as it was
pub record Shape (l l' : Ledger) : Type 0 where
  pub desks : l'.desks ≡ l.desks
  pub width : l'.width ≡ l.width
  pub size : length (memory_of l') ≡ length (memory_of l)
  pub memory : l'.cells.bytes.ghost_name ≡ l.cells.bytes.ghost_name
  -- no byte behind the figures is written
  pub behind : drop (l.desks * l.width * 8) (memory_of l') ≡ drop (l.desks * l.width * 8) (memory_of l)
  pub whole : Whole l → Whole l'

-- figure i of desk d was set to v, where r says whether it was
pub record Set (l : Ledger) (d i : ℕ) (v : ℤ) (r : Bool) (l' : Ledger) : Type 0 where
  pub answer : r ≡ reaches l d i
  pub figures : (e j : ℕ) → figure_at l' e j ≡ cond (r && (e == d && j == i)) v (figure_at l e j)
  pub counts : l'.counts ≡ l.counts
  pub shape : Shape l l'
  pub reached : Whole l → d < l.desks → i < l.width → r ≡ true
  pub all_known : Whole l → r ≡ known l d i
  pub unchanged : r ≡ false → l' ≡ l

-- figure i of desk d was changed by z, where r says whether it was: not where the sum is no 64-bit number
pub record Added (l : Ledger) (d i : ℕ) (z : ℤ) (r : Bool) (l' : Ledger) : Type 0 where
  pub fitting : FitsSigned w64 (figure_at l d i +ℤ z) → Set l d i (figure_at l d i +ℤ z) r l'
  pub too_large : (FitsSigned w64 (figure_at l d i +ℤ z) → ⊥) → (r ≡ false) × (l' ≡ l)

-- figure i of every desk that the memory reaches was set to v
pub record SetAll (l : Ledger) (i : ℕ) (v : ℤ) (l' : Ledger) : Type 0 where
  pub figures : (e j : ℕ) → figure_at l' e j ≡ cond (reaches l e i && j == i) v (figure_at l e j)
  pub all : Whole l → (e j : ℕ) → figure_at l' e j ≡ cond (known l e i && j == i) v (figure_at l e j)
  pub counts : l'.counts ≡ l.counts
  pub shape : Shape l l'

-- the count of desk d went up by one, where r says whether it did
pub record Raised (l : Ledger) (d : ℕ) (r : Bool) (l' : Ledger) : Type 0 where
  pub answer : r ≡ (nat_lt d l.desks && (nat_lt d 16 && nat_lt (count_at l d) 65535))
  pub counts : (e : ℕ) → count_at l' e ≡ cond (r && e == d) (count_at l e + 1) (count_at l e)
  pub figures : (e j : ℕ) → figure_at l' e j ≡ figure_at l e j
  pub cells : l'.cells ≡ l.cells
  pub shape : Shape l l'
  pub unchanged : r ≡ false → l' ≡ l
