-- The items of positions: a fill or a hedge of some lots of an instrument. Assumes nothing.
use Rattle.std.specs.Prelude.{ℕ, ◌+◌, cond, not, ◌&&◌, ◌||◌, List, [], ◌∷◌, ℤ, pos, negsuc, ◌==◌, int_lt, nat_lt}
use Rattle.std.specs.Int.{w32}
use Rattle.std.proofs.Common.{to_z}
use Rattle.desks.specs.Firsts.{Tests}
use Rattle.book.specs.Items.{byte, quantity, padded}
use Rattle.positions.specs.declared.trade.Side.{Side}
use Rattle.positions.specs.declared.trade.Side.TheVariants.{Fill, Hedge}
use Rattle.positions.specs.declared.trade.Trade.{Trade}

-- the lots of an item, signed
abbrev pub lots : List ℕ → ℤ
lots x = to_z w32 (quantity x)

-- the first wrong field: kind 1 or 2, instrument 0 to 63, -10,000 to 10,000 lots and not 0, two zero bytes
abbrev pub wrong_fields : List ℕ → Tests ℕ
wrong_fields x =
    (not (byte 0 x == 1) && not (byte 0 x == 2), 0)
    ∷ (nat_lt 63 (byte 1 x), 1)
    ∷ (quantity x == 0 || (int_lt (lots x) (negsuc 9999) || int_lt (pos 10000) (lots x)), 2)
    ∷ (not (padded x), 6)
    ∷ []

-- kind 1 is a fill, kind 2 a hedge
abbrev pub side_of : List ℕ → Side
side_of x = cond (byte 0 x == 1) Fill Hedge

abbrev pub trade_of : List ℕ → Trade
trade_of x = record { side = side_of x; instrument = byte 1 x; lots = lots x }

-- the figure that a trade changes: i is the filled net of instrument i, 64 + i its hedged net
abbrev pub figure_on : Side → ℕ → ℕ
figure_on Fill i = i
figure_on Hedge i = 64 + i

abbrev pub figure_of : Trade → ℕ
figure_of t = figure_on t.side t.instrument

abbrev pub target : List ℕ → ℕ
target x = figure_of (trade_of x)
