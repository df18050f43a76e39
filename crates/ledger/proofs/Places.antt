-- Where a figure lies, and what a write to its cell and a loop over the desks make of a ledger.
use Rattle.std.proofs.Common.{◌≡◌, ℕ, zero, suc, ◌+◌, ◌*◌, ◌<◌, ◌≤◌, Bool, true, cond, ◌&&◌, eqb, ltb, List, length, get_or, drop, replicate, ℤ, pos, None, sym, refl, ap, subst, rules, arith}
use Rattle.std.proofs.Math.Nat.{ℕ_set}
use Rattle.std.proofs.lemmas.Nat.{row_fits}
use Rattle.std.proofs.lemmas.List.{length-replicate}
use Rattle.std.proofs.lemmas.Bool.Decides.{nat_tests}
use Rattle.std.proofs.lemmas.Grind.{rows}
use Rattle.desks.specs.Firsts.{first}
use Rattle.cells.specs.declared.Cells.{Cells}
use Rattle.cells.specs.Cell.{Put}
use Rattle.cells.proofs.Known.{cell_zero, behind_put}
use Rattle.ledger.specs.declared.Ledger.{Ledger}
use Rattle.ledger.specs.Figures.{value_of, known, figure_at, memory_of, reaches, Whole}
use Rattle.ledger.specs.Faults.{place_tests}
use Rattle.ledger.specs.Changes.{Shape, Set, SetAll}

-- a place says its row and its column
same_place : (w d i e j : ℕ) → i < w → j < w → eqb (e * w + j) (d * w + i) ≡ (eqb e d && eqb j i)
same_place w d i e j p q = grind (arith, rows, nat_tests)

-- a figure that has a place is known, and lies among the figures
pub placed : (l : Ledger) (d i : ℕ) → first (place_tests l d i) ≡ None → known l d i ≡ true
placed l d i e = grind (arith, nat_tests)

place_within : (l : Ledger) (d i : ℕ) → known l d i ≡ true → d * l.width + i < l.desks * l.width
place_within l d i k = grind (arith, nat_tests, row_fits d l.width l.desks l.width)

-- under `Whole` the memory reaches every known figure
pub reaches_whole : (l : Ledger) (d i : ℕ) → Whole l → reaches l d i ≡ known l d i
reaches_whole l d i w = grind (arith, rows, nat_tests)

-- a ledger with other cells
abbrev pub over : (l : Ledger) (c : Cells) → c.width ≡ 8 → Ledger
over l c w = record { cells = c; desks = l.desks; width = l.width; counts = l.counts; cut = w }

over_same : (l : Ledger) (c : Cells) (w : c.width ≡ 8) → c ≡ l.cells → over l c w ≡ l
over_same l c w e = subst (λ (c : Cells). (w : c.width ≡ 8) → over l c w ≡ l) (sym e) (λ w. ap (over l l.cells) (ℕ_set _ _ w l.cut)) w

module _ (l : Ledger) (c : Cells) (w : c.width ≡ 8) (d i : ℕ) (v : ℤ) (x : List ℕ) (r : Bool) (k : known l d i ≡ true) (n : length x ≡ 8) (q : value_of x ≡ v) (p : Put l.cells (d * l.width + i) x r c) where
  answer : r ≡ reaches l d i
  answer = grind (arith, nat_tests)

  at_figures : (e j : ℕ) → figure_at (over l c w) e j ≡ cond (r && (eqb e d && eqb j i)) v (figure_at l e j)
  at_figures e j = grind (arith, nat_tests, p.cells (e * l.width + j), same_place l.width d i e j)

  behind : drop (l.desks * l.width * 8) c.bytes.now ≡ drop (l.desks * l.width * 8) l.cells.bytes.now
  behind = let m = place_within l d i k in behind_put l.cells c (d * l.width + i) x r (l.desks * l.width * 8) p (rw l.cut (omega arith))

  -- x put into the cell of figure i of desk d is what `set` promises
  pub set_there : Set l d i v r (over l c w)
  set_there = record {
    answer = answer;
    figures = at_figures;
    counts = refl;
    shape = record { desks = refl; width = refl; size = p.size; memory = p.memory; behind = behind; whole = λ h. search rules };
    reached = λ h a b. grind (arith, nat_tests, answer, reaches_whole l d i h);
    all_known = λ h. grind (arith, nat_tests, answer, reaches_whole l d i h);
    unchanged = λ f. over_same l c w (p.unchanged f);
  }

-- over zeroed memory every figure is 0
zero_value : (w : ℕ) → w ≡ 8 → value_of (replicate w 0) ≡ pos 0
zero_value w e = ap (λ n. value_of (replicate n 0)) e

pub zero_figure : (l : Ledger) (n : ℕ) → memory_of l ≡ replicate n 0 → (d i : ℕ) → figure_at l d i ≡ pos 0
zero_figure l n z d i = grind (arith, nat_tests, cell_zero l.cells n (d * l.width + i) z, zero_value l.cells.width l.cut)

-- zeroed memory that is large enough makes the ledger whole
pub zero_whole : (l : Ledger) (n : ℕ) → memory_of l ≡ replicate n 0 → l.desks ≤ 16 → l.desks * l.width * 8 ≤ n → Whole l
zero_whole l n z h k = (l.cut, h, rw (z, length-replicate {A = ℕ} n 0) k)

-- a count of zeroes is 0
zeros : (n d : ℕ) → ◌≡◌ {A = ℕ} (get_or (replicate n 0) d 0) 0
zeros zero d = refl
zeros (suc n) zero = refl
zeros (suc n) (suc d) = zeros n d

pub zero_count : (n d : ℕ) (b : Bool) → ◌≡◌ {A = ℕ} (cond b (get_or (replicate n 0) d 0) 0) 0
zero_count n d b = let z : ◌≡◌ {A = ℕ} (get_or (replicate n 0) d 0) 0 = zeros n d in grind (arith, nat_tests)

-- what a figure can be reached by does not change
same_reach : (l l' : Ledger) (d i : ℕ) → Shape l l' → reaches l' d i ≡ reaches l d i
same_reach l l' d i s = grind (arith, nat_tests)

-- figure i is v for each desk below n, where l is the ledger as the loop began
abbrev pub Upto : Ledger → ℕ → ℤ → ℕ → Ledger → Type 0
Upto l i v n l' = (e j : ℕ) → figure_at l' e j ≡ cond (ltb e n && (reaches l e i && eqb j i)) v (figure_at l e j)

-- one more desk
pub upto_more : (l l' l'' : Ledger) (i : ℕ) (v : ℤ) (n : ℕ) (r : Bool) → Shape l l' → Upto l i v n l' → Set l' n i v r l'' → Upto l i v (n + 1) l''
upto_more l l' l'' i v n r s u p e j = grind (arith, nat_tests, p.answer, p.figures e j, u e j, same_reach l l' n i s)

-- all desks
pub upto_all : (l l' : Ledger) (i : ℕ) (v : ℤ) (n : ℕ) → l.desks ≤ n → l'.counts ≡ l.counts → Shape l l' → Upto l i v n l' → SetAll l i v l'
upto_all l l' i v n h k s u = record {
  figures = λ e j. grind (arith, nat_tests, u e j);
  all = λ w e j. grind (arith, nat_tests, u e j, reaches_whole l e i w);
  counts = k;
  shape = s;
}

pub shape_then : (l l' l'' : Ledger) → Shape l l' → Shape l' l'' → Shape l l''
shape_then l l' l'' s t = record { desks = cc; width = cc; size = cc; memory = cc; behind = cc; whole = λ w. t.whole (s.whole w) }
