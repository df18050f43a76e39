-- What one change of a ledger does to the figures of its desks.
use Rattle.std.proofs.Common.{◌≡◌, ℕ, ◌+◌, ◌*◌, ◌^◌, ◌<◌, ◌≤◌, Bool, true, false, cond, ◌&&◌, eqb, ltb, ◌≢◌, length, get_or, drop, ℤ, pos, ◌+ℤ◌, nat_abs, sym, refl, ap, ◌∙◌, ⊎_elim, mul-one, mul-add, arith}
use lib.IntN.{+ℤ_idr}
use Rattle.std.proofs.lemmas.Bool.{eq-eqb, ne_eqb, cases_eq, and_from, lt-ltb}
use Rattle.ledger.specs.declared.Ledger.{Ledger}
use Rattle.ledger.specs.Figures.{figure_at, count_at, figures, memory_of, Whole}
use Rattle.ledger.specs.Bounds.{Within}
use Rattle.ledger.specs.Changes.{Shape, Set, Added, Raised}
use Rattle.ledger.proofs.Listed.{length_figures, get_or_figures, figures_same}
use Rattle.book.specs.Rules.{shifted, at_place}
use Rattle.book.specs.Model.{most_items}
use Rattle.book.proofs.Shifts.{shifted_is}
use Rattle.book.proofs.Orders.{nat_abs_sum, fits64}

-- the figures of the desk where one figure got z more
pub figures_changed : (l : Ledger) (d i : ℕ) (z : ℤ) (r : Bool) (l' : Ledger) → Set l d i (figure_at l d i +ℤ z) r l' → Whole l → d < l.desks → i < l.width → figures l' d ≡ shifted (figures l d) (at_place i z)
figures_changed l d i z r l' p w h k = shifted_is (figures l d) (figures l' d) (at_place i z) same_length at_each where
  yes' : r ≡ true
  yes' = p.reached w h k

  same_length : length (figures l' d) ≡ length (figures l d)
  same_length = length_figures l' d (rw p.shape.desks h) ∙ p.shape.width ∙ sym (length_figures l d h)

  at_each : (j : ℕ) → j < length (figures l d) → get_or (figures l' d) j (pos 0) ≡ get_or (figures l d) j (pos 0) +ℤ at_place i z j
  at_each j b =
      get_or_figures l' d j ∙ p.figures d j
      ∙ ap (λ t. cond (t && (eqb d d && eqb j i)) (figure_at l d i +ℤ z) (figure_at l d j)) yes'
      ∙ ap (λ t. cond (t && eqb j i) (figure_at l d i +ℤ z) (figure_at l d j)) (eq-eqb d d refl)
      ∙ ⊎_elim (λ (e : j ≡ i). ap (λ t. cond t (figure_at l d i +ℤ z) (figure_at l d j)) (eq-eqb j i e) ∙ ap (λ m. figure_at l d m +ℤ z) (sym e) ∙ sym (ap (λ t. figure_at l d j +ℤ cond t z (pos 0)) (eq-eqb j i e)))
      (λ e. ap (λ t. cond t (figure_at l d i +ℤ z) (figure_at l d j)) (ne_eqb j i e) ∙ sym (+ℤ_idr (figure_at l d j)) ∙ sym (ap (λ t. figure_at l d j +ℤ cond t z (pos 0)) (ne_eqb j i e)))
      (cases_eq j i)
      ∙ ap (λ y. y +ℤ at_place i z j) (sym (get_or_figures l d j))

-- the other desks keep theirs
pub figures_kept : (l : Ledger) (d i : ℕ) (v : ℤ) (r : Bool) (l' : Ledger) → Set l d i v r l' → (e : ℕ) → e ≢ d → figures l' e ≡ figures l e
figures_kept l d i v r l' p e ne = figures_same l l' e p.shape.desks p.shape.width (λ j. p.figures e j ∙ kept v (figure_at l e j) r (eqb e d) (eqb j i) (ne_eqb e d ne)) where
  kept : (x y : ℤ) (s t u : Bool) → t ≡ false → cond (s && (t && u)) x y ≡ y
  kept x y true t u q = rw q refl
  kept x y false t u q = refl

-- a desk that is known and has not too many items counts one more
pub raise_done : (l : Ledger) (d : ℕ) (r : Bool) (l' : Ledger) → Raised l d r l' → Whole l → d < l.desks → count_at l d < most_items → r ≡ true
raise_done l d r l' p w h k =
    p.answer ∙ and_from (ltb d l.desks) (ltb d 16 && ltb (count_at l d) 65535) (lt-ltb d l.desks h)
    (and_from (ltb d 16) (ltb (count_at l d) 65535) (lt-ltb d 16 (omega (arith, w.1))) (lt-ltb (count_at l d) 65535 (omega arith)))

pub count_done : (l : Ledger) (d : ℕ) (r : Bool) (l' : Ledger) → Raised l d r l' → r ≡ true → count_at l' d ≡ count_at l d + 1
count_done l d r l' p e = p.counts d ∙ ap (λ t. cond (t && eqb d d) (count_at l d + 1) (count_at l d)) e ∙ ap (λ t. cond t (count_at l d + 1) (count_at l d)) (eq-eqb d d refl)

pub count_kept : (l : Ledger) (d : ℕ) (r : Bool) (l' : Ledger) → Raised l d r l' → (e : ℕ) → e ≢ d → count_at l' e ≡ count_at l e
count_kept l d r l' p e ne = p.counts e ∙ kept (count_at l e + 1) (count_at l e) r (eqb e d) (ne_eqb e d ne) where
  kept : (x y : ℕ) (s t : Bool) → t ≡ false → cond (s && t) x y ≡ y
  kept x y true t q = rw q refl
  kept x y false t q = refl

-- once the item is counted, a change of at most a step keeps the bound
pub step_within : (o s : ℕ) (l : Ledger) (d i : ℕ) (z : ℤ) (r : Bool) (l' : Ledger) → Raised l d r l' → r ≡ true → Within o s l → nat_abs z ≤ s → nat_abs (figure_at l' d i +ℤ z) ≤ o + s * count_at l' d
step_within o s l d i z r l' p e w h =
    let a = nat_abs_sum (figure_at l d i) z in
    let b = w d i in
    let m : s * (count_at l d + 1) ≡ s * count_at l d + s = mul-add s (count_at l d) 1 ∙ ap (λ y. s * count_at l d + y) (mul-one s) in
    rw (p.figures d i, count_done l d r l' p e, m) (omega arith)

-- so that it is made
pub added_fits : (l : Ledger) (d i : ℕ) (z : ℤ) (r : Bool) (l' : Ledger) (k : ℕ) → Added l d i z r l' → nat_abs (figure_at l d i +ℤ z) ≤ k → k < 2 ^ 63 → Set l d i (figure_at l d i +ℤ z) r l'
added_fits l d i z r l' k p h g = p.fitting (fits64 (figure_at l d i +ℤ z) k h g)

-- the bytes behind those that are needed
pub same_behind : (l l' : Ledger) (n : ℕ) → Shape l l' → l.desks * l.width * 8 ≡ n → drop n (memory_of l') ≡ drop n (memory_of l)
same_behind l l' n s e = ap (λ y. drop y (memory_of l')) (sym e) ∙ s.behind ∙ ap (λ y. drop y (memory_of l)) e
