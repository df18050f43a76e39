-- Why positions admit without looking at the group's net: with a limit on it, an admitted item could be shut out by another. Assumes nothing.
use Rattle.std.specs.Prelude.{◌≡◌, ℕ, ◌≤◌, true, false, ◌&&◌, List, [], ◌∷◌, replicate, pos, nat_le, unsigned_abs}
use Rattle.book.specs.Rules.{Rules, StillAdmitted, total}
use Rattle.positions.specs.Positions.{figures_of_a_desk, positions}

-- positions that also ask that the net of all figures stays within a limit
abbrev pub netted : ℕ → ℕ → Rules
netted limit n = record {
  width = figures_of_a_desk;
  wrong = (positions n).wrong;
  admits = λ o x f. (positions n).admits o x f && nat_le (unsigned_abs (total ((positions n).entered o x f))) limit;
  entered = (positions n).entered;
  openable = (positions n).openable;
  least = (positions n).least;
  most = (positions n).most;
}

-- a fill of 10,000 lots of instrument 0
abbrev pub large_fill : List ℕ
large_fill = 1 ∷ 0 ∷ 0 ∷ 0 ∷ 39 ∷ 16 ∷ 0 ∷ 0 ∷ []

-- with a limit of 10,000, a new book admits that fill of either desk, and none after the other: the law fails
pub record NetLimitParts (n : ℕ) : Type 0 where
  pub first_admitted : (netted 10000 n).admits 0 large_fill (replicate figures_of_a_desk (pos 0)) ≡ true
  pub second_admitted : (netted 10000 n).admits 1 large_fill (replicate figures_of_a_desk (pos 0)) ≡ true
  pub shut_out : (netted 10000 n).admits 1 large_fill ((netted 10000 n).entered 0 large_fill (replicate figures_of_a_desk (pos 0))) ≡ false
  pub unlawful : 2 ≤ n → StillAdmitted n (netted 10000 n) → ⊥
