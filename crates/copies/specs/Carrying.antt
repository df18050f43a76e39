-- A movement carried out at one desk of a ledger, and its item counted. Assumes nothing.
use Rattle.std.specs.Prelude.{◌≡◌, ℕ, ◌+◌, ◌<◌, ◌≢◌}
use Rattle.ledger.specs.declared.Ledger.{Ledger}
use Rattle.ledger.specs.Figures.{count_at, figures}
use Rattle.ledger.specs.Changes.{Shape}
use Rattle.book.specs.Model.{most_items}
use Rattle.copies.specs.declared.entry.Movement.{Movement}
use Rattle.copies.specs.Entries.{Bounded, moved}

-- desk d may have one item more, and the movement is one of its book
pub record Ready (step : ℕ) (l : Ledger) (d : ℕ) (m : Movement) : Type 0 where
  pub desk : d < l.desks
  pub few : count_at l d < most_items
  pub bounded : Bounded l.width step m

-- its figures are moved and it counts one item more, and nothing else changed
pub record Carried (l : Ledger) (d : ℕ) (m : Movement) (l' : Ledger) : Type 0 where
  pub shape : Shape l l'
  pub here : figures l' d ≡ moved m (figures l d)
  pub count : count_at l' d ≡ count_at l d + 1
  pub others : (e : ℕ) → e ≢ d → (figures l' e ≡ figures l e) × (count_at l' e ≡ count_at l e)
