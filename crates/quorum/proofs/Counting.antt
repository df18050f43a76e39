-- The lemmas on counts. Assumes nothing.
use Rattle.std.proofs.Common.{◌≡◌, ℕ, zero, suc, ◌+◌, ◌<◌, ◌≤◌, Bool, true, false, not, ◌&&◌, eqb, ◌⊎◌, refl, ap, ⊎_elim, arith}
use Rattle.std.proofs.lemmas.Bool.{eq-eqb, ne_eqb, cases_eq}
use Rattle.desks.specs.Sets.{one, how_many}

pub one_true : (b : Bool) → b ≡ true → one b ≡ 1
one_true b e = ap one e

pub one_false : (b : Bool) → b ≡ false → one b ≡ 0
one_false b e = ap one e

pub one_le : (a b : Bool) → (a ≡ true → b ≡ true) → one a ≤ one b
one_le true b h = rw (h refl) (omega arith)
one_le false b h = omega arith

-- What holds of each number in the sum holds of the sums.
pub cnt_sums : (p q r s : ℕ → Bool) (n : ℕ) → ((k : ℕ) → k < n → one (p k) + one (q k) ≤ one (r k) + one (s k)) → how_many p n + how_many q n ≤ how_many r n + how_many s n
cnt_sums p q r s zero h = omega arith
cnt_sums p q r s (suc n) h = omega (arith, h n (omega arith), cnt_sums p q r s n (λ k l. h k (omega arith)))

abbrev pub never : ℕ → Bool
never k = false

abbrev pub always : ℕ → Bool
always k = true

pub cnt_never : (n : ℕ) → how_many never n ≡ 0
cnt_never zero = refl
cnt_never (suc n) = omega (arith, cnt_never n)

pub cnt_always : (n : ℕ) → how_many always n ≡ n
cnt_always zero = refl
cnt_always (suc n) = omega (arith, cnt_always n)

-- fewer pass a stricter test
pub cnt_mono : (p q : ℕ → Bool) (n : ℕ) → ((k : ℕ) → k < n → p k ≡ true → q k ≡ true) → how_many p n ≤ how_many q n
cnt_mono p q n h = omega (arith, cnt_never n, cnt_sums p never q never n (λ k l. omega (arith, one_le (p k) (q k) (h k l))))

pub cnt_le : (p : ℕ → Bool) (n : ℕ) → how_many p n ≤ n
cnt_le p n = omega (arith, cnt_always n, cnt_mono p always n (λ k l e. refl))

-- what passes one of two tests
pub cnt_split : (p q r : ℕ → Bool) (n : ℕ) → ((k : ℕ) → k < n → p k ≡ true → (q k ≡ true) ⊎ (r k ≡ true)) → how_many p n ≤ how_many q n + how_many r n
cnt_split p q r n h = omega (arith, cnt_never n, cnt_sums p never q r n (λ k l. at k (p k) refl l))
  where
    at : (k : ℕ) (b : Bool) → p k ≡ b → k < n → one b + 0 ≤ one (q k) + one (r k)
    at k false e l = omega arith
    at k true e l = ⊎_elim (λ u. omega (arith, one_true (q k) u)) (λ u. omega (arith, one_true (r k) u)) (h k l e)

-- tests that never pass together, and that pass only where r does
pub cnt_apart : (p q r : ℕ → Bool) (n : ℕ) → ((k : ℕ) → k < n → p k ≡ true → r k ≡ true) → ((k : ℕ) → k < n → q k ≡ true → r k ≡ true) → ((k : ℕ) → k < n → p k ≡ true → q k ≡ true → ⊥) → how_many p n + how_many q n ≤ how_many r n
cnt_apart p q r n hp hq apart = omega (arith, cnt_never n, cnt_sums p q r never n (λ k l. at k (p k) (q k) refl refl l))
  where
    at : (k : ℕ) (a b : Bool) → p k ≡ a → q k ≡ b → k < n → one a + one b ≤ one (r k) + 0
    at k false false e f l = omega arith
    at k true false e f l = omega (arith, one_true (r k) (hp k l e))
    at k false true e f l = omega (arith, one_true (r k) (hq k l f))
    at k true true e f l = absurd (apart k l e f)

pub cnt_not : (p : ℕ → Bool) (n : ℕ) → how_many (λ k. not (p k)) n + how_many p n ≡ n
cnt_not p zero = refl
cnt_not p (suc n) = omega (arith, at (p n), cnt_not p n)
  where
    at : (b : Bool) → one (not b) + one b ≡ 1
    at true = refl
    at false = refl

-- the one number d
pub cnt_one : (b : Bool) (d n : ℕ) → d < n → how_many (λ k. eqb k d && b) n ≡ one b
cnt_one b d n l = past n l
  where
    before : (n : ℕ) → n ≤ d → how_many (λ k. eqb k d && b) n ≡ 0
    before zero h = refl
    before (suc n) h = rw (ne_eqb n d (λ e. omega arith)) (omega (arith, before n (omega arith)))

    past : (n : ℕ) → d < n → how_many (λ k. eqb k d && b) n ≡ one b
    past zero h = omega arith
    past (suc n) h = ⊎_elim (λ e. rw (eq-eqb n d e) (omega (arith, before n (omega arith)))) (λ ne. rw (ne_eqb n d ne) (omega (arith, past n (omega arith)))) (cases_eq n d)

-- one number's test has changed, and no other that passed fails now
pub cnt_point : (p q : ℕ → Bool) (d n : ℕ) → d < n → ((k : ℕ) → k < n → (k ≡ d → ⊥) → p k ≡ true → q k ≡ true) → how_many p n + one (q d) ≤ how_many q n + one (p d)
cnt_point p q d n l h = omega (arith, cnt_one (q d) d n l, cnt_one (p d) d n l, cnt_sums p (λ k. eqb k d && q d) q (λ k. eqb k d && p d) n at)
  where
    at : (k : ℕ) → k < n → one (p k) + one (eqb k d && q d) ≤ one (q k) + one (eqb k d && p d)
    at k m = ⊎_elim (λ e. rw e (rw (eq-eqb d d refl) (omega arith))) (λ ne. rw (ne_eqb k d ne) (omega (arith, one_le (p k) (q k) (h k m ne)))) (cases_eq k d)

-- where more pass p than q, some number passes p and not q
pub cnt_more : (p q : ℕ → Bool) (n : ℕ) → how_many q n < how_many p n → (k : ℕ) × (k < n) × (p k ≡ true) × (q k ≡ false)
cnt_more p q zero h = let z : ⊥ = omega arith in absurd z
cnt_more p q (suc n) h = at (p n) (q n) refl refl (cnt_more p q n)
  where
    Found : ℕ → Type 0
    Found m = (k : ℕ) × (k < m) × (p k ≡ true) × (q k ≡ false)

    later : Found n → Found (suc n)
    later r = (r.0, omega (arith, r.1), r.2, r.3)

    at : (a b : Bool) → p n ≡ a → q n ≡ b → (how_many q n < how_many p n → Found n) → Found (suc n)
    at true false e f ih = (n, omega arith, e, f)
    at true true e f ih = later (ih (omega (arith, h, one_true (p n) e, one_true (q n) f)))
    at false true e f ih = later (ih (omega (arith, h, one_false (p n) e, one_true (q n) f)))
    at false false e f ih = later (ih (omega (arith, h, one_false (p n) e, one_false (q n) f)))

pub cnt_some : (p : ℕ → Bool) (n : ℕ) → 0 < how_many p n → (k : ℕ) × (k < n) × (p k ≡ true)
cnt_some p n h = let r = cnt_more p never n (omega (arith, cnt_never n)) in (r.0, r.1, r.2)
