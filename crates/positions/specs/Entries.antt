-- Trades as the entries of a book: an item moves its lots to one figure, and none pays. Assumes nothing.
use Rattle.std.specs.Prelude.{◌≡◌, ℕ, ◌<◌, ◌≤◌, Bool, true, false, cond, ◌||◌, List, pos, negsuc, None, int_lt, ◌==◌, unsigned_abs}
use Rattle.std.proofs.Common.{sym, refl, arith}
use Rattle.std.proofs.Math.Bool.{and-true}
use Rattle.std.proofs.lemmas.Bool.{or_parts, ltb-false}
use Rattle.desks.specs.Firsts.{first}
use Rattle.desks.proofs.Passed.{none_holds}
use Rattle.book.specs.Items.{byte, quantity}
use Rattle.book.proofs.Orders.{nat_abs_between}
use Rattle.copies.specs.declared.entry.Movement.{Movement}
use Rattle.copies.specs.Entries.{EntryModel, Ruled, Bounded}
use Rattle.positions.specs.declared.trade.Side.TheVariants.{Fill, Hedge}
use Rattle.positions.specs.declared.trade.Trade.{Trade}
use Rattle.positions.specs.Trades.{lots, wrong_fields, trade_of, figure_on, figure_of, target}
use Rattle.positions.specs.Positions.{positions, position_bytes, position_limit}
use Rattle.positions.specs.Laws.{positions_lawful}

-- what the fields of a well-formed item say
pub lots_small : (x : List ℕ) → first (wrong_fields x) ≡ None → unsigned_abs (lots x) ≤ 10000
lots_small x h =
    let k = or_parts (quantity x == 0) (int_lt (lots x) (negsuc 9999) || int_lt (pos 10000) (lots x)) (none_holds (wrong_fields x) h 2) in
    let m = or_parts (int_lt (lots x) (negsuc 9999)) (int_lt (pos 10000) (lots x)) k.1 in
    nat_abs_between (lots x) 9999 m.0 m.1

pub target_known : (x : List ℕ) → first (wrong_fields x) ≡ None → target x < 128
target_known x h = on (byte 0 x == 1) (ltb-false 63 (byte 1 x) (none_holds (wrong_fields x) h 1)) where
  on : (t : Bool) → byte 1 x ≤ 63 → figure_on (cond t Fill Hedge) (byte 1 x) < 128
  on true i = omega arith
  on false i = omega arith

abbrev pub move_of : Trade → Movement
move_of t = record { amount = t.lots; to = figure_of t; from = None }

pub trade_bounded : (x : List ℕ) → first (wrong_fields x) ≡ None → Bounded 128 10000 (move_of (trade_of x))
trade_bounded x w = record { to = target_known x w; amount = lots_small x w; from = λ i e. absurd (cc) }

pub trades_ruled : (n : ℕ) → Ruled n (positions n) 10000 10000 (λ o x. move_of (trade_of x))
trades_ruled n = record {
  opens = λ a h. let k = or_parts (int_lt a (negsuc 9999)) (int_lt (pos 10000) a) h in nat_abs_between a 9999 k.0 k.1;
  admits = λ o x f. sym (and-true _);
  entered = λ o x f. refl;
  bounded = λ o x h w. trade_bounded x w;
}

abbrev pub trades : EntryModel Trade
trades = record {
  rules = positions;
  bytes = position_bytes;
  opening = 10000;
  step = 10000;
  limit = position_limit;
  value = trade_of;
  movement = λ t o. move_of t;
  sized = λ n. omega arith;
  reached = refl;
  fits = omega arith;
  laws = positions_lawful;
  ruled = trades_ruled;
}
