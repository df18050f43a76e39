-- Figures that items change, each at its place: order does not matter, and the sum changes by the sum of the changes.
use Rattle.std.proofs.Common.{◌≡◌, ℕ, zero, suc, ◌+◌, ◌<◌, cond, List, [], ◌∷◌, length, get_or, take, ℤ, pos, ◌+ℤ◌, sym, refl, ap, ◌∙◌, ⊎_elim, arith}
use lib.IntN.{+ℤ_assoc, +ℤ_comm, +ℤ_idr, +ℤ_idl}
use Rattle.std.proofs.lemmas.List.{ext_get_or, take_all}
use Rattle.std.proofs.lemmas.Int.{ints}
use Rattle.std.proofs.lemmas.Bool.{eq-eqb, ne_eqb, cases_eq}
use Rattle.book.specs.Rules.{shifted, total, at_place}

pub length_shifted : (f : List ℤ) (change : ℕ → ℤ) → length (shifted f change) ≡ length f
length_shifted [] change = refl
length_shifted (z ∷ zs) change = ap suc (length_shifted zs (λ i. change (suc i)))

pub get_or_shifted : (f : List ℤ) (change : ℕ → ℤ) (i : ℕ) → i < length f → get_or (shifted f change) i (pos 0) ≡ get_or f i (pos 0) +ℤ change i
get_or_shifted [] change i h = absurd (omega (arith, h))
get_or_shifted (z ∷ zs) change zero h = refl
get_or_shifted (z ∷ zs) change (suc i) h = get_or_shifted zs (λ j. change (suc j)) i (omega (arith, h))

swap : (z a b : ℤ) → (z +ℤ a) +ℤ b ≡ (z +ℤ b) +ℤ a
swap z a b = +ℤ_assoc z a b ∙ ap (λ y. z +ℤ y) (+ℤ_comm a b) ∙ sym (+ℤ_assoc z b a)

pub either_order : (f : List ℤ) (change other : ℕ → ℤ) → shifted (shifted f change) other ≡ shifted (shifted f other) change
either_order [] change other = refl
either_order (z ∷ zs) change other =
    let h = swap z (change 0) (other 0) in
    let t = either_order zs (λ i. change (suc i)) (λ i. other (suc i)) in
    λ i. h i ∷ t i

-- figures that agree with the changed ones at each place
pub shifted_is : (f g : List ℤ) (change : ℕ → ℤ) → length g ≡ length f → ((i : ℕ) → i < length f → get_or g i (pos 0) ≡ get_or f i (pos 0) +ℤ change i) → g ≡ shifted f change
shifted_is f g change l h =
    ext_get_or (pos 0) g (shifted f change) (l ∙ sym (length_shifted f change)) (λ i b. h i (omega arith) ∙ sym (get_or_shifted f change i (omega arith)))

-- the sum of the first n changes
abbrev pub changes : ℕ → (ℕ → ℤ) → ℤ
changes zero change = pos 0
changes (suc n) change = change 0 +ℤ changes n (λ i. change (suc i))

pub total_shifted : (f : List ℤ) (change : ℕ → ℤ) → total (shifted f change) ≡ total f +ℤ changes (length f) change
total_shifted [] change = refl
total_shifted (z ∷ zs) change = let e = total_shifted zs (λ i. change (suc i)) in ap (λ y. (z +ℤ change 0) +ℤ y) e ∙ omega (arith, ints)

none : (n : ℕ) (change : ℕ → ℤ) → ((i : ℕ) → change i ≡ pos 0) → changes n change ≡ pos 0
none zero change h = refl
none (suc n) change h = ap (λ y. y +ℤ changes n (λ i. change (suc i))) (h 0) ∙ +ℤ_idl _ ∙ none n (λ i. change (suc i)) (λ i. h (suc i))

same : (n : ℕ) (change other : ℕ → ℤ) → ((i : ℕ) → change i ≡ other i) → changes n change ≡ changes n other
same zero change other h = refl
same (suc n) change other h = ap (λ y. y +ℤ changes n (λ i. change (suc i))) (h 0) ∙ ap (λ y. other 0 +ℤ y) (same n (λ i. change (suc i)) (λ i. other (suc i)) (λ i. h (suc i)))

pub changes_at_place : (n k : ℕ) (a : ℤ) → k < n → changes n (at_place k a) ≡ a
changes_at_place zero k a h = absurd (omega (arith, h))
changes_at_place (suc n) zero a h = ap (λ y. a +ℤ y) (none n (λ i. at_place 0 a (suc i)) (λ i. ap (λ b. cond b a (pos 0)) (ne_eqb (suc i) 0 (λ e. omega (arith, e))))) ∙ +ℤ_idr a
changes_at_place (suc n) (suc k) a h =
    let e : changes n (λ i. at_place (suc k) a (suc i)) ≡ changes n (at_place k a) =
    same n (λ i. at_place (suc k) a (suc i)) (at_place k a) (λ i. ⊎_elim
    (λ (p : i ≡ k). ap (λ b. cond b a (pos 0)) (eq-eqb (suc i) (suc k) (ap suc p) ∙ sym (eq-eqb i k p)))
    (λ p. ap (λ b. cond b a (pos 0)) (ne_eqb (suc i) (suc k) (λ q. p (omega arith)) ∙ sym (ne_eqb i k p)))
    (cases_eq i k)) in
    ap (λ y. y +ℤ changes n (λ i. at_place (suc k) a (suc i))) (ap (λ b. cond b a (pos 0)) (ne_eqb 0 (suc k) (λ q. omega (arith, q)))) ∙ +ℤ_idl _ ∙ e ∙ changes_at_place n k a (omega arith)

pub changes_sum : (n : ℕ) (change other : ℕ → ℤ) → changes n (λ i. change i +ℤ other i) ≡ changes n change +ℤ changes n other
changes_sum zero change other = refl
changes_sum (suc n) change other = ap (λ y. (change 0 +ℤ other 0) +ℤ y) (changes_sum n (λ i. change (suc i)) (λ i. other (suc i))) ∙ omega (arith, ints)

-- one change after another is their sum
pub shifted_twice : (f : List ℤ) (change other : ℕ → ℤ) → shifted (shifted f change) other ≡ shifted f (λ i. change i +ℤ other i)
shifted_twice [] change other = refl
shifted_twice (z ∷ zs) change other =
    let h = +ℤ_assoc z (change 0) (other 0) in
    let t = shifted_twice zs (λ i. change (suc i)) (λ i. other (suc i)) in
    λ i. h i ∷ t i

-- one figure more, and 0 where there is none
pub total_more : (f : List ℤ) (i : ℕ) → total (take (i + 1) f) ≡ total (take i f) +ℤ get_or f i (pos 0)
total_more [] i = ap total (take_all (i + 1) [] (omega arith)) ∙ sym (ap (λ y. total y +ℤ pos 0) (take_all i [] (omega arith)))
total_more (z ∷ zs) zero = +ℤ_idr z ∙ sym (+ℤ_idl z)
total_more (z ∷ zs) (suc i) =
    let e : suc i + 1 ≡ suc (i + 1) = omega arith in
    let t = total_more zs i in
    ap (λ k. total (take k (z ∷ zs))) e ∙ ap (λ y. z +ℤ y) t ∙ sym (+ℤ_assoc z (total (take i zs)) (get_or zs i (pos 0)))
