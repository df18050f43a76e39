-- What a payment leaves: the sum of a desk's balances; and what a balance covers. Assumes nothing.
use Rattle.std.specs.Prelude.{◌≡◌, ℕ, ◌+◌, true, false, List, get_or, ℤ, pos, None, slice_index_or}
use Rattle.book.specs.Items.{quantity}
use Rattle.book.specs.Rules.{Fit, total}
use Rattle.cash.specs.Cash.{cash}

-- entering an admitted payment keeps the sum of the balances
abbrev pub KeepsSum : ℕ → Type 0
KeepsSum n = (o : ℕ) (x : List ℕ) (f : List ℤ) → Fit n (cash n) o x f → (cash n).admits o x f ≡ true → total ((cash n).entered o x f) ≡ total f

-- a well-formed payment of exactly the balance is admitted, one of 1 more is not
pub record PaysOut (n o : ℕ) (x : List ℕ) (f : List ℤ) : Type 0 where
  pub exactly : get_or f o (pos 0) ≡ pos (quantity x) → (cash n).admits o x f ≡ true
  pub one_more : (b : ℕ) → slice_index_or f o (pos 0) ≡ pos b → quantity x ≡ b + 1 → (cash n).admits o x f ≡ false

abbrev pub PaysToTheLast : ℕ → Type 0
PaysToTheLast n = (o : ℕ) (x : List ℕ) (f : List ℤ) → (cash n).wrong o x ≡ None → PaysOut n o x f
