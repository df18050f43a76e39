-- The bits of a set: how many are set, and whether one is at or above a place.
use Rattle.std.proofs.Common.{◌≡◌, ℕ, zero, suc, ◌+◌, ◌-◌, ◌/◌, ◌%◌, ◌^◌, ◌<◌, ◌≤◌, true, not, ◌&&◌, eqb, ltb, Decides, sym, refl, ap, ◌∙◌, subst, ⊎_elim, le_trans, div-one, arith, pow_mono}
use native.Mathlib.Nat.{div-eq_of_lt}
use lib.Count.{ones, ones_step, leading_top}
use Rattle.std.proofs.lemmas.Nat.{shr-shr, shr_le, shr_below, pow_pos, mod_below, le-div}
use Rattle.std.proofs.lemmas.Bool.{cases_lt, ltb-true, lt-ltb, eq-eqb, ne_eqb, eqb-true, eqb-false, not-true, not_from_false, and_parts, and_from}
use Rattle.desks.specs.Sets.{one, how_many, has_desk, size_of, Beyond}

bit : (x : ℕ) → x < 2 → one (eqb x 1) ≡ x
bit zero h = refl
bit (suc zero) h = refl
bit (suc (suc x)) h = absurd (omega (arith, h))

-- the bits below a place, and those of what stands from it on
pub below_and_rest : (b d : ℕ) → d ≤ 16 → how_many (has_desk b) d + ones (b / 2 ^ d) ≡ ones b
below_and_rest b zero h = let e : b / 2 ^ 0 ≡ b = div-one b in let f : ones (b / 2 ^ 0) ≡ ones b = ap ones e in omega arith
below_and_rest b (suc d) h =
    let e : ones (b / 2 ^ d) ≡ b / 2 ^ d % 2 + ones (b / 2 ^ d / 2) = ones_step (b / 2 ^ d) in
    let f : b / 2 ^ d / 2 ≡ b / 2 ^ (d + 1) = shr-shr b d 1 in
    let s : suc d ≡ d + 1 = omega arith in
    let l : ltb d 16 ≡ true = lt-ltb d 16 (omega arith) in
    let m : b / 2 ^ d % 2 < 2 = mod_below (b / 2 ^ d) 2 (omega arith) in
    let i = below_and_rest b d (omega arith) in
    let g : ones (b / 2 ^ d / 2) ≡ ones (b / 2 ^ suc d) = ap ones (f ∙ ap (λ k. b / 2 ^ k) (sym s)) in
    let o : one (ltb d 16 && eqb (b / 2 ^ d % 2) 1) ≡ b / 2 ^ d % 2 = rw l (bit (b / 2 ^ d % 2) m) in
    omega arith

pub size_is : (b : ℕ) → b < 2 ^ 16 → ones b ≡ size_of b
unfolding size_of ones
size_is b h =
    let z : b / 2 ^ 16 ≡ 0 = div-eq_of_lt h in
    let o : ones (b / 2 ^ 16) ≡ 0 = ap ones z in
    let e = below_and_rest b 16 (omega arith) in
    omega arith

-- the highest bit of a set that has one at or above n
top : (b n j : ℕ) → n < 16 → (b / 2 ^ n ≡ 0 → ⊥) → 2 ^ j ≤ b → b < 2 ^ suc j → j < 16 → Beyond b n
top b n j l ne lo hi k =
    let s : suc j ≡ 1 + j = omega arith in
    let q : b / 2 ^ j < 2 = shr_below b 1 j (subst (λ m. b < 2 ^ m) s hi) in
    let r : 1 ≤ b / 2 ^ j = le-div 1 b (2 ^ j) (pow_pos j) (omega arith) in
    let m : n ≤ j = ⊎_elim (λ (g : j < n). absurd (ne (div-eq_of_lt (le_trans hi (pow_mono {i = suc j} {j = n} g))))) (λ (g : n ≤ j). g) (cases_lt j n) in
    (j, m, and_from (ltb j 16) (eqb (b / 2 ^ j % 2) 1) (lt-ltb j 16 k) (eq-eqb (b / 2 ^ j % 2) 1 (omega arith)))

found : (b n : ℕ) → b < 2 ^ 16 → n < 16 → not (eqb (b / 2 ^ n) 0) ≡ true → Beyond b n
found b n h l t =
    let ne : b / 2 ^ n ≡ 0 → ⊥ = eqb-false (b / 2 ^ n) 0 (not-true (eqb (b / 2 ^ n) 0) t) in
    let some : 0 < b / 2 ^ n = omega arith in
    let p = leading_top 16 b (omega (arith, shr_le b n)) h in
    top b n p.0 l ne p.2 p.3 (omega (arith, p.1))

seen : (b n : ℕ) → Beyond b n → not (eqb (b / 2 ^ n) 0) ≡ true
seen b n (d, m, x) =
    let y = and_parts (ltb d 16) (eqb (b / 2 ^ d % 2) 1) x in
    let o : b / 2 ^ d % 2 ≡ 1 = eqb-true (b / 2 ^ d % 2) 1 y.1 in
    let e : b / 2 ^ n / 2 ^ (d - n) ≡ b / 2 ^ d = shr-shr b n (d - n) ∙ ap (λ k. b / 2 ^ k) (omega arith) in
    let z : b / 2 ^ n / 2 ^ (d - n) ≤ b / 2 ^ n = shr_le (b / 2 ^ n) (d - n) in
    not_from_false (eqb (b / 2 ^ n) 0) (ne_eqb (b / 2 ^ n) 0 (λ w. omega arith))

pub reaches_is : (b n : ℕ) → b < 2 ^ 16 → n < 16 → Decides (not (eqb (b / 2 ^ n) 0)) (Beyond b n)
reaches_is b n h l = (found b n h l, seen b n)

-- no desk is 16 or above
pub none_past : (b n : ℕ) → 16 ≤ n → Beyond b n → ⊥
none_past b n l (d, m, x) = let y = and_parts (ltb d 16) (eqb (b / 2 ^ d % 2) 1) x in omega (arith, ltb-true d 16 y.0)
