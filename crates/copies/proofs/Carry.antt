-- Carrying out a movement: the desk's count, then the figure that gets the amount, then the one that pays it.
use Rattle.std.proofs.Common.{◌≡◌, ℕ, ◌+◌, ◌*◌, ◌^◌, ◌<◌, ◌≤◌, Bool, true, false, cond, ◌&&◌, eqb, ◌≢◌, ℤ, ◌+ℤ◌, neg_ℤ, nat_abs, Some, None, sym, refl, ap, ◌∙◌, mul-le-mul_left, arith}
use Rattle.std.proofs.lemmas.Int.{ints}
use Rattle.std.proofs.lemmas.Bool.{ne_eqb}
use Rattle.ledger.specs.declared.Ledger.{Ledger}
use Rattle.ledger.specs.Figures.{figure_at, count_at, figures, Whole}
use Rattle.ledger.specs.Changes.{Shape, Set, Added, Raised}
use Rattle.ledger.specs.Bounds.{Within, Counted}
use Rattle.ledger.proofs.Listed.{figures_raised}
use Rattle.ledger.proofs.Bounds.{within_raised, counted_raised, within_set, counted_set, same_count}
use Rattle.ledger.proofs.Places.{shape_then}
use Rattle.book.specs.Model.{most_items}
use Rattle.book.specs.Rules.{shifted, at_place}
use Rattle.book.proofs.Shifts.{shifted_twice}
use Rattle.copies.proofs.Entering.{raise_done, count_done, count_kept, step_within, added_fits, figures_changed, figures_kept}
use Rattle.copies.specs.declared.entry.Movement.{Movement}
use Rattle.copies.specs.Entries.{EntryModel, change}
use Rattle.copies.specs.Carrying.{Ready, Carried}

-- the bounds of a kind of entry are numbers of 64 bits
pub reach : {E : Type 0} (m : EntryModel E) → m.opening + m.step * most_items < 2 ^ 63
reach m = let r = m.reached in let f = m.fits in omega (arith, r, f)

-- a ledger of the same shape has the size that the rules ask
pub still_sized : {E : Type 0} (m : EntryModel E) (l l' : Ledger) → Shape l l' → (2 ≤ l.desks) × (l.width ≡ (m.rules l.desks).width) → (2 ≤ l'.desks) × (l'.width ≡ (m.rules l'.desks).width)
still_sized m l l' s h = (rw s.desks h.0, s.width ∙ h.1 ∙ ap (λ n. (m.rules n).width) (sym s.desks))

-- what a value of copies keeps of its ledger
pub record Kept (o s : ℕ) (l : Ledger) : Type 0 where
  pub whole : Whole l
  pub counted : Counted most_items l
  pub within : Within o s l

module _ (o s : ℕ) (l : Ledger) (d : ℕ) (m : Movement) (r t : Bool) (l₁ l₂ : Ledger)
    (w : Whole l) (k : Counted most_items l) (b : Within o s l) (f : o + s * most_items < 2 ^ 63) (a : Ready s l d m)
    (p : Raised l d r l₁) (q : Added l₁ d m.to m.amount t l₂) where
  up : r ≡ true
  up = raise_done l d r l₁ p w a.desk a.few

  few : Counted most_items l₁
  few = counted_raised most_items l d r l₁ p a.few k

  whole : Whole l₁
  whole = p.shape.whole w

  -- any figure, changed by at most a step
  bound : (i : ℕ) (z : ℤ) → nat_abs z ≤ s → nat_abs (figure_at l₁ d i +ℤ z) ≤ o + s * count_at l₁ d
  bound i z h = step_within o s l d i z r l₁ p up b h

  fits : o + s * count_at l₁ d < 2 ^ 63
  fits = let h : s * count_at l₁ d ≤ s * most_items = mul-le-mul_left s (few d) in omega (arith, f)

  gets : Set l₁ d m.to (figure_at l₁ d m.to +ℤ m.amount) t l₂
  gets = added_fits l₁ d m.to m.amount t l₂ (o + s * count_at l₁ d) q (bound m.to m.amount a.bounded.amount) fits

  here : figures l₂ d ≡ shifted (figures l d) (at_place m.to m.amount)
  here =
      figures_changed l₁ d m.to m.amount t l₂ gets whole (rw p.shape.desks a.desk) (rw p.shape.width a.bounded.to)
      ∙ ap (λ f. shifted f (at_place m.to m.amount)) (figures_raised l d r l₁ p d)

  counts : (e : ℕ) → count_at l₂ e ≡ count_at l₁ e
  counts e = same_count l₁ l₂ e gets.counts gets.shape.desks

  elsewhere : (e : ℕ) → e ≢ d → (figures l₂ e ≡ figures l e) × (count_at l₂ e ≡ count_at l e)
  elsewhere e ne = (figures_kept l₁ d _ _ t l₂ gets e ne ∙ figures_raised l d r l₁ p e, counts e ∙ count_kept l d r l₁ p e ne)

  shaped : Shape l l₂
  shaped = shape_then l l₁ l₂ p.shape gets.shape

  few₂ : Counted most_items l₂
  few₂ = counted_set most_items l₁ d _ _ t l₂ gets few

  within₂ : Within o s l₂
  within₂ = within_set o s l₁ d _ _ t l₂ gets (bound m.to m.amount a.bounded.amount) (within_raised o s l d r l₁ p b)

  -- no figure pays
  pub given : m.from ≡ None → Carried l d m l₂ × Kept o s l₂
  given e = (
    record {
      shape = shaped;
      here = here ∙ sym (ap (λ y. shifted (figures l d) (change y m.amount m.to)) e);
      count = counts d ∙ count_done l d r l₁ p up;
      others = elsewhere;
    },
    record { whole = gets.shape.whole whole; counted = few₂; within = within₂ },
  )

  -- figure i pays
  module _ (i : ℕ) (e : m.from ≡ Some i) (u : Bool) (l₃ : Ledger) (v : Added l₂ d i (neg_ℤ m.amount) u l₃) where
    still : figure_at l₂ d i ≡ figure_at l₁ d i
    still = gets.figures d i ∙ other (figure_at l₁ d m.to +ℤ m.amount) (figure_at l₁ d i) t (eqb d d) (eqb i m.to) (ne_eqb i m.to (a.bounded.from i e).1) where
      other : (y z : ℤ) (s e f : Bool) → f ≡ false → cond (s && (e && f)) y z ≡ z
      other y z true true f j = rw j refl
      other y z true false f j = refl
      other y z false e f j = refl

    bound_paid : nat_abs (figure_at l₂ d i +ℤ neg_ℤ m.amount) ≤ o + s * count_at l₂ d
    bound_paid = rw (still, counts d) (bound i (neg_ℤ m.amount) (let h = a.bounded.amount in omega (arith, ints)))

    pays : Set l₂ d i (figure_at l₂ d i +ℤ neg_ℤ m.amount) u l₃
    pays = added_fits l₂ d i (neg_ℤ m.amount) u l₃ (o + s * count_at l₂ d) v bound_paid (rw (counts d) fits)

    here_paid : figures l₃ d ≡ shifted (figures l d) (change (Some i) m.amount m.to)
    here_paid =
        figures_changed l₂ d i (neg_ℤ m.amount) u l₃ pays (gets.shape.whole whole) (rw shaped.desks a.desk) (rw shaped.width (a.bounded.from i e).0)
        ∙ ap (λ f. shifted f (at_place i (neg_ℤ m.amount))) here
        ∙ shifted_twice (figures l d) (at_place m.to m.amount) (at_place i (neg_ℤ m.amount))

    same : (f : ℕ) → count_at l₃ f ≡ count_at l₂ f
    same f = same_count l₂ l₃ f pays.counts pays.shape.desks

    pub paid : Carried l d m l₃ × Kept o s l₃
    paid = (
      record {
        shape = shape_then l l₂ l₃ shaped pays.shape;
        here = here_paid ∙ sym (ap (λ y. shifted (figures l d) (change y m.amount m.to)) e);
        count = same d ∙ counts d ∙ count_done l d r l₁ p up;
        others = λ f ne. (figures_kept l₂ d _ _ u l₃ pays f ne ∙ (elsewhere f ne).0, same f ∙ (elsewhere f ne).1);
      },
      record {
        whole = pays.shape.whole (gets.shape.whole whole);
        counted = counted_set most_items l₂ d _ _ u l₃ pays few₂;
        within = within_set o s l₂ d _ _ u l₃ pays bound_paid within₂;
      },
    )
