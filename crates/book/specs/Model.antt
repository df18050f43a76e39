-- What a book means: the rules for a number of desks, and for each of its values the desks' figures and counts. Assumes nothing.
use Rattle.std.specs.Prelude.{◌≡◌, ℕ, ◌<◌, ◌≤◌, List, [], length, ℤ, pos, slice_index_or, unsigned_abs}
use Rattle.book.specs.Rules.{Rules, Laws}

-- the most items that the book of one desk may have
abbrev pub most_items : ℕ
most_items = 1024

-- what holds of the desks' figures and counts at every value of a book
pub record Sound (rules : Rules) (limit desks : ℕ) (figures : ℕ → List ℤ) (count : ℕ → ℕ) : Type 0 where
  pub desks_low : 2 ≤ desks
  pub desks_high : desks ≤ 16
  pub width : (d : ℕ) → d < desks → length (figures d) ≡ rules.width
  pub only_desks : (d : ℕ) → desks ≤ d → figures d ≡ []
  -- no figure lies beyond the limit either way
  pub within : (d i : ℕ) → unsigned_abs (slice_index_or (figures d) i (pos 0)) ≤ limit
  pub counted : (d : ℕ) → count d ≤ most_items

pub record BookModel (B : Type 0) : Type 1 where
  -- the rules for that many desks
  pub rules : ℕ → Rules
  pub limit : ℕ
  -- the bytes that it needs for that many desks
  pub bytes : ℕ → ℕ
  pub desks : B → ℕ
  -- of one desk: its figures, and how many items it entered
  pub figures : B → ℕ → List ℤ
  pub count : B → ℕ → ℕ
  -- the memory that it was lent
  pub memory : B → List ℕ
  pub laws : (n : ℕ) → Laws n (rules n)
  pub sound : (b : B) → Sound (rules (desks b)) limit (desks b) (figures b) (count b)
