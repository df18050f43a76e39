-- Payments as the entries of a book: an item moves its amount from its origin's balance to the payee's. Assumes nothing.
use Rattle.std.specs.Prelude.{◌≡◌, ℕ, ◌<◌, ◌≢◌, List, pos, Some, None, int_lt, nat_le, nat_lt, ◌==◌}
use Rattle.std.proofs.Common.{refl, arith}
use Rattle.std.proofs.lemmas.Bool.{or_parts, leb-false, eqb-false, ltb-false}
use Rattle.desks.specs.Firsts.{first}
use Rattle.desks.proofs.Passed.{none_holds}
use Rattle.book.specs.Items.{byte, quantity}
use Rattle.book.proofs.Orders.{nat_abs_upto}
use Rattle.copies.specs.declared.entry.Movement.{Movement}
use Rattle.copies.specs.Entries.{EntryModel, Ruled, Bounded}
use Rattle.cash.specs.declared.payment.Payment.{Payment}
use Rattle.cash.specs.Payments.{wrong_fields, payment_of}
use Rattle.cash.specs.Cash.{cash, cash_bytes, balance_limit}
use Rattle.cash.specs.Laws.{cash_lawful}

abbrev pub move_of : Payment → ℕ → Movement
move_of p o = record { amount = pos p.amount; to = p.payee; from = Some o }

-- what the fields of a well-formed payment say
pub payment_bounded : (n o : ℕ) (x : List ℕ) → o < n → first (wrong_fields n o x) ≡ None → Bounded n 1000000 (move_of (payment_of x) o)
payment_bounded n o x h w =
    let e = or_parts (nat_le n (byte 1 x)) (byte 1 x == o) (none_holds (wrong_fields n o x) w 1) in
    let a = or_parts (nat_lt (quantity x) 1) (nat_lt 1000000 (quantity x)) (none_holds (wrong_fields n o x) w 2) in
    let other : byte 1 x ≢ o = eqb-false (byte 1 x) o e.1 in
    record {
      to = leb-false n (byte 1 x) e.0;
      amount = ltb-false 1000000 (quantity x) a.1;
      from = λ i f. let g : i ≡ o = cc in (rw g h, λ j. other (cc));
    }

pub payments_ruled : (n : ℕ) → Ruled n (cash n) 1000000000 1000000 (λ o x. move_of (payment_of x) o)
payments_ruled n = record {
  opens = λ a h. let k = or_parts (int_lt a (pos 0)) (int_lt (pos 1000000000) a) h in nat_abs_upto a 1000000000 k.0 k.1;
  admits = λ o x f. refl;
  entered = λ o x f. refl;
  bounded = payment_bounded n;
}

abbrev pub payments : EntryModel Payment
payments = record {
  rules = cash;
  bytes = cash_bytes;
  opening = 1000000000;
  step = 1000000;
  limit = balance_limit;
  value = payment_of;
  movement = move_of;
  sized = λ n. refl;
  reached = refl;
  fits = omega arith;
  laws = cash_lawful;
  ruled = payments_ruled;
}
