-- Entering a well-formed item: the desk's count, then its one figure.
use Rattle.std.proofs.Common.{◌≡◌, ℕ, ◌<◌, ◌≤◌, Bool, List, None, refl}
use Rattle.desks.specs.Firsts.{first}
use Rattle.ledger.specs.declared.Ledger.{Ledger}
use Rattle.ledger.specs.Figures.{count_at, Whole}
use Rattle.ledger.specs.Changes.{Added, Raised}
use Rattle.ledger.specs.Bounds.{Within, Counted}
use Rattle.book.specs.Model.{most_items}
use Rattle.copies.specs.Carrying.{Ready}
use Rattle.copies.proofs.Carry.{given, reach, still_sized}
use Rattle.positions.specs.Trades.{lots, wrong_fields, target, trade_of}
use Rattle.positions.specs.Entries.{move_of, trades, trade_bounded}
use Rattle.positions.specs.Model.{Positions}

module _ (b : Positions) (d : ℕ) (x : List ℕ) (r r' : Bool) (l l' : Ledger)
    (w : first (wrong_fields x) ≡ None) (h : d < b.ledger.desks) (k : count_at b.ledger d < most_items)
    (p : Raised b.ledger d r l) (q : Added l d (target x) (lots x) r' l') where
  ready : Ready 10000 b.ledger d (move_of (trade_of x))
  ready = record { desk = h; few = k; bounded = rw b.sized.1 (trade_bounded x w) }

  -- what a value of positions keeps
  pub kept : Whole l' × ((2 ≤ l'.desks) × (l'.width ≡ 128)) × Counted most_items l' × Within 10000 10000 l'
  kept =
      let g = given 10000 10000 b.ledger d (move_of (trade_of x)) r r' l l' b.whole b.counted b.within (reach trades) ready p q refl in
      (g.1.whole, still_sized trades b.ledger l' g.0.shape b.sized, g.1.counted, g.1.within)
