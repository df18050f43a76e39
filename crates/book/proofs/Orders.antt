-- Small facts that the laws of a book rest on: no fault where a test of one fails, and orders of integers.
use Rattle.std.proofs.Common.{◌≡◌, ℕ, suc, ◌+◌, ◌^◌, ◌<◌, ◌≤◌, Bool, true, false, cond, not, eqb, ℤ, pos, negsuc, ◌+ℤ◌, nat_abs, is_some, Some, None, Option, sym, refl, ap, ◌∙◌, arith, w32, w64, SFits, to_z, of_z}
use lib.Signed.{le_z, lt_z}
use Rattle.std.proofs.lemmas.Int.{ints, to_z-of_z}
use Rattle.std.proofs.lemmas.Bool.{ne_eqb, ltb-false, false≢true}
use Rattle.book.specs.Rules.{at_place}

pub none_from : {A : Type 0} (o : Option A) → not (is_some o) ≡ true → o ≡ None
none_from None h = refl
none_from (Some x) h = absurd (let z : ◌≡◌ {A = Bool} false true = h in grind arith)

-- what a balance covers, a larger one covers too
pub int_le_more : (a z : ℤ) (n : ℕ) → le_z a z ≡ true → le_z a (z +ℤ pos n) ≡ true
int_le_more a z n h = grind (arith, ints)

pub at_place_pos : (k q i : ℕ) → at_place k (pos q) i ≡ pos (cond (eqb i k) q 0)
at_place_pos k q i = elim (eqb i k) as (λ b. cond b (pos q) (pos 0) ≡ pos (cond b q 0)) [ true ↦ refl | false ↦ refl ]

pub at_place_other : (k i : ℕ) (a : ℤ) → (i ≡ k → ⊥) → at_place k a i ≡ pos 0
at_place_other k i a h = ap (λ b. cond b a (pos 0)) (ne_eqb i k h)

-- between -(k + 1) and k + 1
pub nat_abs_between : (z : ℤ) (k : ℕ) → lt_z z (negsuc k) ≡ false → lt_z (pos (suc k)) z ≡ false → nat_abs z ≤ suc k
nat_abs_between (pos n) k h g = omega (arith, ltb-false (suc k) n g)
nat_abs_between (negsuc n) k h g = omega (arith, ltb-false k n h)

pub nat_abs_sum : (a b : ℤ) → nat_abs (a +ℤ b) ≤ nat_abs a + nat_abs b
nat_abs_sum a b = omega (arith, ints)

-- a number whose size is small is one of 64 bits
pub fits64 : (z : ℤ) (k : ℕ) → nat_abs z ≤ k → k < 2 ^ 63 → SFits w64 z
fits64 (pos n) k h g = record { sfits = omega arith }
fits64 (negsuc n) k h g = record { sfits = omega arith }

-- a number of 32 bits as one of 64
pub widened : (z : ℤ) → SFits w32 z → to_z w64 (of_z w64 (to_z w32 (of_z w32 z))) ≡ z
widened z h = ap (λ y. to_z w64 (of_z w64 y)) (to_z-of_z w32 z h) ∙ to_z-of_z w64 z (record { sfits = omega (arith, h.sfits) })

-- from 0 to k
pub nat_abs_upto : (z : ℤ) (k : ℕ) → lt_z z (pos 0) ≡ false → lt_z (pos k) z ≡ false → nat_abs z ≤ k
nat_abs_upto (pos n) k h g = omega (arith, ltb-false k n g)
nat_abs_upto (negsuc n) k h g = absurd (false≢true (sym h))
