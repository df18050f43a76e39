-- What it is to write a number in decimal, and that one text alone does. Assumes nothing.
use Rattle.std.specs.Prelude.{◌≡◌, ℕ, suc, ◌+◌, ◌-◌, ◌*◌, ◌^◌, ◌<◌, ◌≤◌, List, [], ◌∷◌, length, ℤ, pos, negsuc, slice_index_or}
use Rattle.account.specs.Text.{number}

-- each is an ASCII digit
abbrev pub Digits : List ℕ → Type 0
Digits [] = Unit {0}
Digits (d ∷ ds) = ((48 ≤ d) × (d ≤ 57)) × Digits ds

-- the value of digits that follow a number
abbrev pub value_on : ℕ → List ℕ → ℕ
value_on n [] = n
value_on n (d ∷ ds) = value_on (n * 10 + (d - 48)) ds

-- digits with that value, and no 0 in front of others
pub record Writes (ds : List ℕ) (n : ℕ) : Type 0 where
  pub digits : Digits ds
  pub some : 0 < length ds
  pub value : value_on 0 ds ≡ n
  pub shortest : slice_index_or ds 0 0 ≡ 48 → length ds ≡ 1

-- a number below 0 has a minus sign in front
abbrev pub WritesNumber : List ℕ → ℤ → Type 0
WritesNumber bs (pos n) = Writes bs n
WritesNumber bs (negsuc n) = (ds : List ℕ) × (bs ≡ 45 ∷ ds) × Writes ds (suc n)

-- the numbers that lines have
abbrev pub InRange : ℤ → Type 0
InRange (pos n) = n < 2 ^ 64
InRange (negsuc n) = n < 2 ^ 63

-- the text of a number writes it, and is the only text that does
abbrev pub NumbersAreWritten : Type 0
NumbersAreWritten = (z : ℤ) → InRange z → WritesNumber (number z) z × ((bs : List ℕ) → WritesNumber bs z → bs ≡ number z)
