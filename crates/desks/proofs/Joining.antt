-- A set with one desk more.
use Rattle.std.proofs.Common.{◌≡◌, ℕ, zero, suc, ◌+◌, ◌-◌, ◌/◌, ◌%◌, ◌^◌, ◌<◌, ◌≤◌, Bool, true, false, ◌&&◌, ◌||◌, eqb, ltb, sym, refl, ap, ◌∙◌, ⊎_elim, one-mul, arith}
use native.Mathlib.Nat.{div-eq_of_lt}
use native.Mathlib.Nat.{mul-mod_left}
use lib.Bits.{bit_or}
use Rattle.std.proofs.lemmas.Nat.{pow-add, shl-shr, or_shr, or_mod, pow_below, mod_below}
use Rattle.std.proofs.lemmas.Bool.{cases_lt, lt-ltb, le-ltb, eq-eqb, ne_eqb, cases_eq}
use Rattle.desks.specs.Sets.{has_desk}

pub none_joined : (b d q : ℕ) → 16 ≤ d → has_desk b q ≡ ((ltb q 16 && eqb q d) || has_desk b q)
none_joined b d q h = ⊎_elim
    (λ (l : q < 16). let e : eqb q d ≡ false = ne_eqb q d (λ w. omega arith) in rw (e, lt-ltb q 16 l) refl)
    (λ (l : 16 ≤ q). rw (le-ltb q 16 l) refl)
    (cases_lt q 16)

-- the bits of a power of two
own_bit : (d : ℕ) → 2 ^ d / 2 ^ d % 2 ≡ 1
own_bit d = let e : 2 ^ d / 2 ^ d ≡ 1 = ap (λ k. k / 2 ^ d) (sym (one-mul (2 ^ d))) ∙ shl-shr 1 d in ap (λ k. k % 2) e

low_bit : (d q : ℕ) → q < d → 2 ^ d / 2 ^ q % 2 ≡ 0
low_bit d q h =
    let j = d - q - 1 in
    let e : d ≡ (j + 1) + q = omega arith in
    let f : 2 ^ d / 2 ^ q ≡ 2 ^ (j + 1) = ap (λ k. 2 ^ k / 2 ^ q) e ∙ ap (λ k. k / 2 ^ q) (pow-add 2 (j + 1) q) ∙ shl-shr (2 ^ (j + 1)) q in
    ap (λ k. k % 2) (f ∙ pow-add 2 j 1) ∙ mul-mod_left (2 ^ j) 2

high_bit : (d q : ℕ) → d < q → 2 ^ d / 2 ^ q % 2 ≡ 0
high_bit d q h = ap (λ k. k % 2) (div-eq_of_lt (pow_below d q h))

bit_of_or : (b d q : ℕ) → bit_or b (2 ^ d) / 2 ^ q % 2 ≡ bit_or (b / 2 ^ q % 2) (2 ^ d / 2 ^ q % 2)
bit_of_or b d q = ap (λ k. k % 2) (or_shr b (2 ^ d) q) ∙ or_mod (b / 2 ^ q) (2 ^ d / 2 ^ q) 1

with_one : (x : ℕ) → x < 2 → eqb (bit_or x 1) 1 ≡ true
with_one zero h = refl
with_one (suc zero) h = refl
with_one (suc (suc x)) h = absurd (omega (arith, h))

with_none : (x : ℕ) → x < 2 → eqb (bit_or x 0) 1 ≡ eqb x 1
with_none zero h = refl
with_none (suc zero) h = refl
with_none (suc (suc x)) h = absurd (omega (arith, h))

bit_joined : (b d q : ℕ) → eqb (bit_or b (2 ^ d) / 2 ^ q % 2) 1 ≡ (eqb q d || eqb (b / 2 ^ q % 2) 1)
bit_joined b d q =
    let m : b / 2 ^ q % 2 < 2 = mod_below (b / 2 ^ q) 2 (omega arith) in
    ⊎_elim
    (λ (e : q ≡ d).
    let o : 2 ^ d / 2 ^ q % 2 ≡ 1 = ap (λ k. 2 ^ d / 2 ^ k % 2) e ∙ own_bit d in
    ap (λ k. eqb k 1) (bit_of_or b d q ∙ ap (bit_or (b / 2 ^ q % 2)) o) ∙ with_one _ m ∙ rw (eq-eqb q d e) refl)
    (λ ne.
    let z : 2 ^ d / 2 ^ q % 2 ≡ 0 = ⊎_elim (λ (l : q < d). low_bit d q l) (λ (l : d ≤ q). high_bit d q (omega arith)) (cases_lt q d) in
    ap (λ k. eqb k 1) (bit_of_or b d q ∙ ap (bit_or (b / 2 ^ q % 2)) z) ∙ with_none _ m ∙ rw (ne_eqb q d ne) refl)
    (cases_eq q d)

pub joined : (b d q : ℕ) → has_desk (bit_or b (2 ^ d)) q ≡ ((ltb q 16 && eqb q d) || has_desk b q)
joined b d q = ap (λ x. ltb q 16 && x) (bit_joined b d q) ∙ shared (ltb q 16) (eqb q d) (eqb (b / 2 ^ q % 2) 1)
  where
    shared : (x y z : Bool) → (x && (y || z)) ≡ ((x && y) || (x && z))
    shared true y z = refl
    shared false y z = refl
