-- The items of cash: a payment of an amount to another desk. Assumes nothing.
use Rattle.std.specs.Prelude.{ℕ, not, ◌||◌, List, [], ◌∷◌, ◌==◌, nat_le}
use Rattle.desks.specs.Firsts.{Tests}
use Rattle.desks.specs.Forming.{outside}
use Rattle.book.specs.Items.{byte, quantity, padded}
use Rattle.cash.specs.declared.payment.Payment.{Payment}

-- the first wrong field, of an item of origin o among n desks: kind 3, a payee among them other than the origin, an amount of
-- 1 to 1,000,000, two zero bytes
abbrev pub wrong_fields : ℕ → ℕ → List ℕ → Tests ℕ
wrong_fields n o x =
    (not (byte 0 x == 3), 0)
    ∷ (nat_le n (byte 1 x) || (byte 1 x == o), 1)
    ∷ (outside 1 1000000 (quantity x), 2)
    ∷ (not (padded x), 6)
    ∷ []

abbrev pub payment_of : List ℕ → Payment
payment_of x = record { payee = byte 1 x; amount = quantity x }
