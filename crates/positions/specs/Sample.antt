-- Two items that meet what the laws of positions ask, and what entering them gives. Assumes nothing.
use Rattle.std.specs.Prelude.{◌≡◌, ℕ, ◌<◌, true, List, [], ◌∷◌, replicate, ℤ, pos, negsuc, slice_index_or}
use Rattle.book.specs.Rules.{Fit}
use Rattle.positions.specs.Positions.{positions, figures_of_a_desk, hedge_need}

-- a new book's figures; a fill of -20 lots of instrument 5, and a hedge of 300 lots of it
abbrev pub none : List ℤ
none = replicate figures_of_a_desk (pos 0)

abbrev pub sold : List ℕ
sold = 1 ∷ 5 ∷ 255 ∷ 255 ∷ 255 ∷ 236 ∷ 0 ∷ 0 ∷ []

abbrev pub hedged : List ℕ
hedged = 2 ∷ 5 ∷ 0 ∷ 0 ∷ 1 ∷ 44 ∷ 0 ∷ 0 ∷ []

pub record Sample (n : ℕ) : Type 0 where
  pub first_fits : 0 < n → Fit n (positions n) 0 sold none
  pub second_fits : 1 < n → Fit n (positions n) 1 hedged none
  pub first_admitted : (positions n).admits 0 sold none ≡ true
  pub second_admitted : (positions n).admits 1 hedged none ≡ true
  pub filled : slice_index_or ((positions n).entered 1 hedged ((positions n).entered 0 sold none)) 5 (pos 0) ≡ negsuc 19
  pub covered : slice_index_or ((positions n).entered 1 hedged ((positions n).entered 0 sold none)) 69 (pos 0) ≡ pos 300
  pub needed : hedge_need ((positions n).entered 1 hedged ((positions n).entered 0 sold none)) ≡ negsuc 279
