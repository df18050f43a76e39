-- Entering a payment: the desk's count, then the payee's balance, then the origin's.
use Rattle.std.proofs.Common.{◌≡◌, ℕ, ◌<◌, ◌≤◌, Bool, List, pos, neg_ℤ, None, refl}
use Rattle.desks.specs.Firsts.{first}
use Rattle.ledger.specs.declared.Ledger.{Ledger}
use Rattle.ledger.specs.Figures.{count_at, Whole}
use Rattle.ledger.specs.Changes.{Added, Raised}
use Rattle.ledger.specs.Bounds.{Within, Counted}
use Rattle.book.specs.Items.{byte, quantity}
use Rattle.book.specs.Model.{most_items}
use Rattle.copies.specs.Carrying.{Ready}
use Rattle.copies.proofs.Carry.{paid, reach, still_sized}
use Rattle.cash.specs.Payments.{wrong_fields, payment_of}
use Rattle.cash.specs.Entries.{move_of, payments, payment_bounded}
use Rattle.cash.specs.Model.{Cash}

module _ (b : Cash) (d o : ℕ) (x : List ℕ) (r s t : Bool) (l m n : Ledger)
    (w : first (wrong_fields b.ledger.desks o x) ≡ None) (h : d < b.ledger.desks) (g : o < b.ledger.desks)
    (k : count_at b.ledger d < most_items)
    (p : Raised b.ledger d r l) (q : Added l d (byte 1 x) (pos (quantity x)) s m) (u : Added m d o (neg_ℤ (pos (quantity x))) t n) where
  ready : Ready 1000000 b.ledger d (move_of (payment_of x) o)
  ready = record { desk = h; few = k; bounded = rw b.sized.1 (payment_bounded b.ledger.desks o x g w) }

  -- what a value of cash keeps, whether or not the origin's balance covers the payment
  pub kept : Whole n × ((2 ≤ n.desks) × (n.width ≡ n.desks)) × Counted most_items n × Within 1000000000 1000000 n
  kept =
      let c = paid 1000000000 1000000 b.ledger d (move_of (payment_of x) o) r s l m b.whole b.counted b.within (reach payments) ready p q o refl t n u in
      (c.1.whole, still_sized payments b.ledger n c.0.shape b.sized, c.1.counted, c.1.within)
