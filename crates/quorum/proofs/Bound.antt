-- The wire of all identities is no longer than the wires of each together.
use Rattle.std.proofs.Common.{◌≡◌, ℕ, zero, suc, ◌+◌, ◌-◌, ◌*◌, ◌<◌, ◌≤◌, Bool, true, false, cond, List, [], ◌∷◌, map, length, sym, refl, ap, ⊎_elim, mul_assoc, suc-mul, arith}
use Rattle.std.proofs.lemmas.Bool.{and_from, eq-eqb, cases_eq}
use Rattle.std.specs.List.{filter}
use Rattle.desks.specs.Sets.{one}
use Rattle.quorum.specs.Machine.{Protocol}
use Rattle.quorum.specs.Network.{Named, of, wire_of, LawfulEverywhere, Identified, BoundedEverywhere}

-- the sum of the first n values
abbrev pub sums : (ℕ → ℕ) → ℕ → ℕ
sums f zero = 0
sums f (suc n) = f n + sums f n

sums_add : (f g h : ℕ → ℕ) (n : ℕ) → ((k : ℕ) → f k ≡ g k + h k) → sums f n ≡ sums g n + sums h n
sums_add f g h zero e = refl
sums_add f g h (suc n) e = omega (arith, e n, sums_add f g h n e)

sums_le : (f : ℕ → ℕ) (b n : ℕ) → ((k : ℕ) → k < n → f k ≤ b) → sums f n ≤ n * b
sums_le f b zero h = omega arith
sums_le f b (suc n) h = omega (arith, suc-mul n b, h n (omega arith), sums_le f b n (λ k l. h k (omega arith)))

sums_at : (f : ℕ → ℕ) (k n : ℕ) → k < n → f k ≤ sums f n
sums_at f k zero h = absurd (omega (arith, h))
sums_at f k (suc n) h = ⊎_elim (λ (e : k ≡ n). rw e (omega arith)) (λ ne. omega (arith, sums_at f k n (omega arith))) (cases_eq k n)

module _ {K C : Type 0} (n numbers : ℕ) where
  -- one frame counts once, under its identity
  abbrev once : Named K C → ℕ
  once x = sums (λ o. sums (λ j. one (of o (suc j) x)) numbers) n

  -- the wires of all identities together
  abbrev together : List (Named K C) → ℕ
  together w = sums (λ o. sums (λ j. length (wire_of o (suc j) w)) numbers) n

  longer : (x : Named K C) (w : List (Named K C)) (o m : ℕ) → length (wire_of o m (x ∷ w)) ≡ one (of o m x) + length (wire_of o m w)
  longer x w o m = by (of o m x) where
    by : (b : Bool) → length (map (λ y. y.frame) (cond b (x ∷ filter (of o m) w) (filter (of o m) w))) ≡ one b + length (wire_of o m w)
    by true = omega arith
    by false = omega arith

  step : (x : Named K C) (w : List (Named K C)) → together (x ∷ w) ≡ once x + together w
  step x w =
      sums_add (λ o. sums (λ j. length (wire_of o (suc j) (x ∷ w))) numbers) (λ o. sums (λ j. one (of o (suc j) x)) numbers) (λ o. sums (λ j. length (wire_of o (suc j) w)) numbers) n
      (λ o. sums_add (λ j. length (wire_of o (suc j) (x ∷ w))) (λ j. one (of o (suc j) x)) (λ j. length (wire_of o (suc j) w)) numbers (λ j. longer x w o (suc j)))

  counted : (x : Named K C) → x.origin < n → 1 ≤ x.number → x.number ≤ numbers → 1 ≤ once x
  counted x h g k =
      let j = x.number - 1 in
      let e : suc j ≡ x.number = omega arith in
      let t : one (of x.origin (suc j) x) ≡ 1 = ap one (and_from _ _ (eq-eqb x.origin x.origin refl) (eq-eqb x.number (suc j) (sym e))) in
      let a = sums_at (λ i. one (of x.origin (suc i) x)) j numbers (omega arith) in
      let b = sums_at (λ o. sums (λ i. one (of o (suc i) x)) numbers) x.origin n h in
      omega (arith, a, b, t)

  cover : (w : List (Named K C)) → Identified n numbers w → length w ≤ together w
  cover [] h = omega arith
  cover (x ∷ w) h =
      let here = h 0 x (omega arith) in
      omega (arith, step x w, counted x here.0 here.1 here.2, cover w (λ k d l. h (suc k) d (omega (arith, l))))

pub bounded : {D K C : Type 0} (P : Protocol D K C) (m : ℕ) → LawfulEverywhere P m → BoundedEverywhere P m
bounded P m lawful H valid enough s a numbers h =
    let most = 2 * H.n + 1 in
    let each : (o : ℕ) → o < H.n → sums (λ j. length (wire_of o (suc j) s.wire)) numbers ≤ numbers * most =
    λ o l. sums_le (λ j. length (wire_of o (suc j) s.wire)) most numbers (λ j k. (lawful H valid enough s a o (suc j)).short) in
    let all = sums_le (λ o. sums (λ j. length (wire_of o (suc j) s.wire)) numbers) (numbers * most) H.n each in
    omega (arith, cover H.n numbers s.wire h, all, mul_assoc H.n numbers most)
