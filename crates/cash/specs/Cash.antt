-- The rules of cash: a payment that the origin's balance covers is admitted, and moves its amount. Assumes nothing.
use Rattle.std.specs.Prelude.{ℕ, ◌*◌, Bool, not, ◌&&◌, List, ℤ, pos, ◌+ℤ◌, neg_ℤ, is_some, int_le, slice_index_or}
use Rattle.desks.specs.Firsts.{first}
use Rattle.book.specs.Items.{byte, quantity}
use Rattle.book.specs.Rules.{Rules, shifted, at_place}
use Rattle.cash.specs.Payments.{wrong_fields}

-- no balance lies beyond it: an opening of 1,000,000,000, and 1,000,000 for each of 1,024 items
abbrev pub balance_limit : ℕ
balance_limit = 2024000000

-- 64-bit balances, desk by desk
abbrev pub cash_bytes : ℕ → ℕ
cash_bytes n = n * n * 8

-- the balance of the origin covers the amount
abbrev pub covers : ℕ → List ℕ → List ℤ → Bool
covers o x f = int_le (pos (quantity x)) (slice_index_or f o (pos 0))

-- the payee gets what the origin pays
abbrev pub moves : ℕ → List ℕ → ℕ → ℤ
moves o x i = at_place (byte 1 x) (pos (quantity x)) i +ℤ at_place o (neg_ℤ (pos (quantity x))) i

abbrev pub cash : ℕ → Rules
cash n = record {
  width = n;
  wrong = λ o x. first (wrong_fields n o x);
  admits = λ o x f. not (is_some (first (wrong_fields n o x))) && covers o x f;
  entered = λ o x f. shifted f (moves o x);
  openable = n;
  least = pos 0;
  most = pos 1000000000;
}
