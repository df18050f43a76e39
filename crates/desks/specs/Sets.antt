-- Sets of desks as 16 bits, bit d for desk d. Assumes nothing.
use Rattle.std.specs.Prelude.{◌≡◌, ℕ, zero, suc, ◌+◌, ◌/◌, ◌%◌, ◌^◌, ◌≤◌, Bool, true, false, not, ◌&&◌, ◌||◌, ◌==◌, nat_lt}

-- a test as a number
abbrev pub one : Bool → ℕ
one true = 1
one false = 0

-- how many below n pass a test
abbrev pub how_many : (ℕ → Bool) → ℕ → ℕ
how_many p zero = 0
how_many p (suc n) = one (p n) + how_many p n

abbrev pub has_desk : ℕ → ℕ → Bool
has_desk bits d = nat_lt d 16 && bits / 2 ^ d % 2 == 1

-- the set once a desk joined it: what was there, and that desk
abbrev pub Joined : ℕ → ℕ → ℕ → Type 0
Joined bits d bits' = (q : ℕ) → has_desk bits' q ≡ ((nat_lt q 16 && q == d) || has_desk bits q)

unfoldable pub size_of : ℕ → ℕ
size_of bits = how_many (has_desk bits) 16

-- a desk of the set is not below n
abbrev pub Beyond : ℕ → ℕ → Type 0
Beyond bits n = (d : ℕ) × (n ≤ d) × (has_desk bits d ≡ true)

-- as a test
unfoldable pub beyond : ℕ → ℕ → Bool
beyond bits n = nat_lt n 16 && not (bits / 2 ^ n == 0)
