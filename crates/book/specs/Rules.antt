-- The rules of a book, its two laws, and the changes that its items make. Assumes nothing.
use Rattle.std.specs.Prelude.{◌≡◌, ℕ, suc, ◌<◌, Bool, true, cond, ◌≢◌, List, [], ◌∷◌, length, ℤ, pos, ◌+ℤ◌, None, Option, ◌==◌}
use Rattle.desks.specs.Sizes.{item_size}

-- what a book answers, from the origin, the item's bytes and one desk's figures alone
pub record Rules : Type 0 where
  -- how many figures a desk has
  pub width : ℕ
  -- the offset of the first wrong field of a malformed item
  pub wrong : ℕ → List ℕ → Option ℕ
  pub admits : ℕ → List ℕ → List ℤ → Bool
  -- the figures once the item is entered
  pub entered : ℕ → List ℕ → List ℤ → List ℤ
  -- the figures below this number take an opening, from the least amount to the most
  pub openable : ℕ
  pub least : ℤ
  pub most : ℤ

-- an item of a desk of n, at figures of the book
pub record Fit (n : ℕ) (b : Rules) (o : ℕ) (x : List ℕ) (f : List ℤ) : Type 0 where
  pub origin : o < n
  pub size : length x ≡ item_size
  pub figures : length f ≡ b.width

-- two items of different origins are both admitted: either is still admitted after the other is entered
abbrev pub StillAdmitted : ℕ → Rules → Type 0
StillAdmitted n b =
    (o p : ℕ) (x y : List ℕ) (f : List ℤ) → Fit n b o x f → Fit n b p y f → o ≢ p →
    b.admits o x f ≡ true → b.admits p y f ≡ true → b.admits p y (b.entered o x f) ≡ true

-- and both orders of entering them give the same figures
abbrev pub EitherOrder : ℕ → Rules → Type 0
EitherOrder n b =
    (o p : ℕ) (x y : List ℕ) (f : List ℤ) → Fit n b o x f → Fit n b p y f → o ≢ p →
    b.admits o x f ≡ true → b.admits p y f ≡ true → b.entered p y (b.entered o x f) ≡ b.entered o x (b.entered p y f)

-- what every book of n desks shows of its rules
pub record Laws (n : ℕ) (b : Rules) : Type 0 where
  -- no malformed item is admitted
  pub well_formed : (o : ℕ) (x : List ℕ) (f : List ℤ) → Fit n b o x f → b.admits o x f ≡ true → b.wrong o x ≡ None
  -- entering keeps the number of figures
  pub keeps_width : (o : ℕ) (x : List ℕ) (f : List ℤ) → Fit n b o x f → b.admits o x f ≡ true → length (b.entered o x f) ≡ b.width
  pub still_admitted : StillAdmitted n b
  pub either_order : EitherOrder n b

-- each figure changed by what belongs to its place
abbrev pub shifted : List ℤ → (ℕ → ℤ) → List ℤ
shifted [] change = []
shifted (z ∷ zs) change = (z +ℤ change 0) ∷ shifted zs (λ i. change (suc i))

-- the sum of all figures
abbrev pub total : List ℤ → ℤ
total [] = pos 0
total (z ∷ zs) = z +ℤ total zs

-- a change at one place
abbrev pub at_place : ℕ → ℤ → ℕ → ℤ
at_place k a i = cond (i == k) a (pos 0)
