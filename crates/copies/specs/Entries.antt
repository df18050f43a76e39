-- What a kind of entry means: the rules of its book, and what each of its items reads as and moves. Assumes nothing.
use Rattle.std.specs.Prelude.{◌≡◌, ℕ, ◌+◌, ◌*◌, ◌^◌, ◌<◌, ◌≤◌, Bool, true, false, not, ◌&&◌, ◌||◌, ◌≢◌, List, [], ◌∷◌, ℤ, pos, neg_ℤ, ◌+ℤ◌, is_some, Some, None, Option, Result, int_le, int_lt, nat_le, slice_index_or, unsigned_abs}
use Rattle.desks.specs.Firsts.{Tests}
use Rattle.book.specs.Items.{reading}
use Rattle.book.specs.Rules.{Rules, Laws, shifted, total, at_place}
use Rattle.book.specs.Model.{most_items}
use Rattle.book.specs.declared.faults.BookFault.{BookFault}
use Rattle.book.specs.declared.faults.BookFault.TheVariants.{Figure, Amount}
use Rattle.book.specs.declared.faults.WrongField.{WrongField}
use Rattle.copies.specs.declared.entry.Movement.{Movement}
use Rattle.copies.specs.declared.entry.Openings.{Openings}

-- the figure that pays has the amount, where one pays
abbrev pub covers : Option ℕ → ℤ → List ℤ → Bool
covers None a f = true
covers (Some i) a f = int_le a (slice_index_or f i (pos 0))

abbrev pub covered : Movement → List ℤ → Bool
covered m f = covers m.from m.amount f

-- what the amount changes at each figure
abbrev pub change : Option ℕ → ℤ → ℕ → ℕ → ℤ
change None a t i = at_place t a i
change (Some p) a t i = at_place t a i +ℤ at_place p (neg_ℤ a) i

abbrev pub moved : Movement → List ℤ → List ℤ
moved m f = shifted f (change m.from m.amount m.to)

-- the figures are the desk's, the one that pays is not the one that gets, and the amount is at most a step
pub record Bounded (width step : ℕ) (m : Movement) : Type 0 where
  pub to : m.to < width
  pub amount : unsigned_abs m.amount ≤ step
  pub from : (i : ℕ) → m.from ≡ Some i → (i < width) × (i ≢ m.to)

-- the rules for n desks say what the movements of items do
pub record Ruled (n : ℕ) (r : Rules) (opening step : ℕ) (moves : ℕ → List ℕ → Movement) : Type 0 where
  pub opens : (a : ℤ) → (int_lt a r.least || int_lt r.most a) ≡ false → unsigned_abs a ≤ opening
  pub admits : (o : ℕ) (x : List ℕ) (f : List ℤ) → r.admits o x f ≡ (not (is_some (r.wrong o x)) && covered (moves o x) f)
  pub entered : (o : ℕ) (x : List ℕ) (f : List ℤ) → r.entered o x f ≡ moved (moves o x) f
  pub bounded : (o : ℕ) (x : List ℕ) → o < n → r.wrong o x ≡ None → Bounded r.width step (moves o x)

pub record EntryModel (E : Type 0) : Type 1 where
  -- the rules for that many desks
  pub rules : ℕ → Rules
  -- the bytes that a book needs for that many desks: eight for each figure
  pub bytes : ℕ → ℕ
  -- how far an opening may set a figure, either way, and how far an item may change it
  pub opening : ℕ
  pub step : ℕ
  -- no figure lies beyond it, after as many items as a desk may have; the sum of all figures of a desk fits too
  pub limit : ℕ
  -- what a well-formed item reads as, and what that moves, from an origin
  pub value : List ℕ → E
  pub movement : E → ℕ → Movement
  pub sized : (n : ℕ) → n * (rules n).width * 8 ≡ bytes n
  pub reached : opening + step * most_items ≡ limit
  pub fits : limit < 2 ^ 47
  pub laws : (n : ℕ) → Laws n (rules n)
  pub ruled : (n : ℕ) → Ruled n (rules n) opening step (λ o x. movement (value x) o)

-- an opening: a figure that takes one, and an amount in its range
abbrev pub range_tests : Openings → ℕ → ℤ → Tests BookFault
range_tests r i a = (nat_le r.below i, Figure i) ∷ (int_lt a r.least || int_lt r.most a, Amount) ∷ []

-- the openings that the rules take
abbrev pub openings_of : Rules → Openings
openings_of r = record { below = r.openable; least = r.least; most = r.most }

-- an item as it is read, or its first wrong field
abbrev pub read_reply : {E : Type 0} → EntryModel E → ℕ → ℕ → List ℕ → Result E WrongField
read_reply m n o x = reading ((m.rules n).wrong o x) (m.value x)

-- what would bring the sum of all figures to 0
abbrev pub need_of : List ℤ → ℤ
need_of f = neg_ℤ (total f)
