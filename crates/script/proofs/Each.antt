-- Lines added one by one, and what a book answers of a figure.
use Rattle.std.proofs.Common.{◌≡◌, ℕ, ◌+◌, ◌<◌, Bool, true, false, cond, leb, List, [], ◌∷◌, ◌++◌, get_or, pos, Some, sym, refl, ap, ◌∙◌, append_assoc, add-one}
use Rattle.std.specs.Result.{result_unwrap_or}
use Rattle.std.proofs.lemmas.Bool.{leb-true, lt-leb}
use Rattle.desks.specs.Firsts.{first, unless}
use Rattle.account.specs.declared.lines.Line.{Line}
use Rattle.book.specs.Model.{BookModel}
use Rattle.book.specs.Calls.{rules_of, figure_reply}
use Rattle.book.specs.declared.faults.BookFault.TheVariants.{Desk, Figure}
use Rattle.script.specs.Days.{each}

each_more : (f : ℕ → List Line) (n : ℕ) → each f (n + 1) ≡ each f n ++ f n
each_more f n = ap (each f) (add-one n)

-- one turn more
pub turn : (xs ys zs : List Line) (f : ℕ → List Line) (n : ℕ) → ys ≡ xs ++ each f n → zs ≡ ys ++ f n → zs ≡ xs ++ each f (n + 1)
turn xs ys zs f n p q = q ∙ ap (λ l. l ++ f n) p ∙ append_assoc xs (each f n) (f n) ∙ ap (λ l. xs ++ l) (sym (each_more f n))

-- the same where the lines are a list of their own
pub turn_by : (xs ys zs ls : List Line) (f : ℕ → List Line) (n : ℕ) → ys ≡ xs ++ each f n → zs ≡ ys ++ ls → ls ≡ f n → zs ≡ xs ++ each f (n + 1)
turn_by xs ys zs ls f n p q r = turn xs ys zs f n p (q ∙ ap (λ l. ys ++ l) r)

-- a figure that a book has, and 0 at a desk that it does not have
pub asked : {B : Type 0} (m : BookModel B) (b : B) (d i : ℕ) → i < (rules_of m b).width → result_unwrap_or (figure_reply m b d i) (pos 0) ≡ get_or (m.figures b d) i (pos 0)
asked m b d i h = by (leb (m.desks b) d) refl where
  by : (t : Bool) → leb (m.desks b) d ≡ t → result_unwrap_or (unless (cond t (Some (Desk d)) (first ((leb (rules_of m b).width i, Figure i) ∷ []))) (get_or (m.figures b d) i (pos 0))) (pos 0) ≡ get_or (m.figures b d) i (pos 0)
  by true e = sym (ap (λ l. get_or l i (pos 0)) ((m.sound b).only_desks d (leb-true (m.desks b) d e)))
  by false e = rw (lt-leb (rules_of m b).width i h) refl
