-- The figures of a desk as a list: its length, its places, and what each change of the ledger makes of it.
use Rattle.std.proofs.Common.{◌≡◌, ℕ, ◌<◌, ◌≤◌, Bool, true, false, cond, ◌&&◌, eqb, List, [], length, get_or, set, replicate, ℤ, pos, sym, ap, ◌∙◌, ⊎_elim, arith, MutBor}
use Rattle.std.proofs.lemmas.List.FromFn.{length-map-range_with_len, get_or-map-range_with_len}
use Rattle.std.proofs.lemmas.List.{length-set, length-replicate, get_or-replicate, get_or_past, get_or-set_same, get_or-set_other, ext_get_or}
use Rattle.std.proofs.lemmas.Bool.{cases_eq, cases_lt}
use Rattle.std.proofs.lemmas.Bool.Decides.{nat_tests}
use Rattle.ledger.specs.declared.Ledger.{Ledger}
use Rattle.ledger.specs.Figures.{figure_at, figures, Whole}
use Rattle.ledger.specs.Changes.{Made, Set, SetAll, Raised}

-- a desk of the ledger has as many figures as the ledger is wide, and any other has none
pub length_figures : (l : Ledger) (d : ℕ) → d < l.desks → length (figures l d) ≡ l.width
length_figures l d h = grind (arith, nat_tests, length-map-range_with_len (figure_at l d) 0 l.width)

pub figures_none : (l : Ledger) (d : ℕ) → l.desks ≤ d → figures l d ≡ []
figures_none l d h = grind (arith, nat_tests)

-- the list has each figure at its place
pub get_or_figures : (l : Ledger) (d i : ℕ) → get_or (figures l d) i (pos 0) ≡ figure_at l d i
get_or_figures l d i = grind (arith, nat_tests, get_or_past (figures l d) i (pos 0), length_figures l d, get_or-map-range_with_len (figure_at l d) 0 l.width i i (pos 0))

-- a list that has each figure at its place is the list of the figures
pub figures_are : (l : Ledger) (d : ℕ) (xs : List ℤ) → d < l.desks → length xs ≡ l.width → ((i : ℕ) → i < l.width → figure_at l d i ≡ get_or xs i (pos 0)) → figures l d ≡ xs
figures_are l d xs h n f =
    let m = length_figures l d h in
    ext_get_or (pos 0) (figures l d) xs (m ∙ sym n) (λ i k. get_or_figures l d i ∙ f i (omega arith))

-- desks with the same figures have the same list
pub figures_same : (l l' : Ledger) (d : ℕ) → l'.desks ≡ l.desks → l'.width ≡ l.width → ((i : ℕ) → figure_at l' d i ≡ figure_at l d i) → figures l' d ≡ figures l d
figures_same l l' d p q f = ⊎_elim
    (λ h. figures_are l' d (figures l d) (omega arith) (length_figures l d h ∙ sym q) (λ i k. f i ∙ sym (get_or_figures l d i)))
    (λ h. grind (arith, nat_tests))
    (cases_lt d l.desks)

-- the lists of a new ledger
pub figures_made : (n w : ℕ) (m : MutBor (List ℕ)) (l : Ledger) → Made n w m l → (d : ℕ) → d < n → figures l d ≡ replicate w (pos 0)
figures_made n w m l p d h =
    figures_are l d (replicate w (pos 0)) (omega arith) (length-replicate w (pos 0) ∙ sym p.width) (λ i k. p.figures d i ∙ sym (get_or-replicate w i (pos 0) (pos 0) (omega arith)))

-- a place of a list after one was set
get_or_set : (xs : List ℤ) (i j : ℕ) (v : ℤ) → j < length xs → get_or (set xs i v) j (pos 0) ≡ cond (eqb j i) v (get_or xs j (pos 0))
get_or_set xs i j v h = ⊎_elim (λ e. grind (arith, nat_tests, get_or-set_same xs i v (pos 0))) (λ e. grind (arith, nat_tests, get_or-set_other xs i j v (pos 0) e)) (cases_eq j i)

-- one figure was set
pub figures_put : (l l' : Ledger) (d i : ℕ) (v : ℤ) → l'.desks ≡ l.desks → l'.width ≡ l.width → ((j : ℕ) → j < l.width → figure_at l' d j ≡ cond (eqb j i) v (figure_at l d j)) → figures l' d ≡ set (figures l d) i v
figures_put l l' d i v p q f = ⊎_elim in_desks (λ h. figures_none l' d (omega arith) ∙ ap (λ xs. set xs i v) (sym (figures_none l d h))) (cases_lt d l.desks) where
  in_desks : d < l.desks → figures l' d ≡ set (figures l d) i v
  in_desks h =
      let n = length_figures l d h in
      figures_are l' d (set (figures l d) i v) (omega arith) (length-set (figures l d) i v ∙ n ∙ sym q) (λ j k.
      f j (omega arith)
      ∙ ap (cond (eqb j i) v) (sym (get_or_figures l d j))
      ∙ sym (get_or_set (figures l d) i j v (omega arith)))

-- what `set` makes of the lists
pub figures_set : (l : Ledger) (d i : ℕ) (v : ℤ) (r : Bool) (l' : Ledger) → Set l d i v r l' → (e : ℕ) → figures l' e ≡ cond (r && eqb e d) (set (figures l e) i v) (figures l e)
figures_set l d i v r l' p e = at r (eqb e d) (p.figures e) where
  at : (b c : Bool) → ((j : ℕ) → figure_at l' e j ≡ cond (b && (c && eqb j i)) v (figure_at l e j)) → figures l' e ≡ cond (b && c) (set (figures l e) i v) (figures l e)
  at true true f = figures_put l l' e i v p.shape.desks p.shape.width (λ j k. f j)
  at true false f = figures_same l l' e p.shape.desks p.shape.width f
  at false c f = figures_same l l' e p.shape.desks p.shape.width f

-- what `set_all` makes of the lists
pub figures_set_all : (l : Ledger) (i : ℕ) (v : ℤ) (l' : Ledger) → SetAll l i v l' → Whole l → (d : ℕ) → figures l' d ≡ set (figures l d) i v
figures_set_all l i v l' p w d = ⊎_elim
    (λ h. figures_put l l' d i v p.shape.desks p.shape.width (λ j k. grind (arith, nat_tests, p.all w d j)))
    (λ h. let q = p.shape.desks in figures_none l' d (omega arith) ∙ ap (λ xs. set xs i v) (sym (figures_none l d h)))
    (cases_lt d l.desks)

-- `raise` leaves them
pub figures_raised : (l : Ledger) (d : ℕ) (r : Bool) (l' : Ledger) → Raised l d r l' → (e : ℕ) → figures l' e ≡ figures l e
figures_raised l d r l' p e = figures_same l l' e p.shape.desks p.shape.width (p.figures e)
