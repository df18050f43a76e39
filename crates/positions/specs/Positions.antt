-- The rules of positions: every well-formed item is admitted, and adds its lots to one figure. Assumes nothing.
use Rattle.std.specs.Prelude.{ℕ, ◌*◌, not, List, ℤ, pos, negsuc, is_some}
use Rattle.desks.specs.Firsts.{first}
use Rattle.book.specs.Rules.{Rules, shifted, at_place}
use Rattle.copies.specs.Entries.{need_of}
use Rattle.positions.specs.Trades.{lots, wrong_fields, target}

abbrev pub figures_of_a_desk : ℕ
figures_of_a_desk = 128

-- no figure lies beyond it: an opening of 10,000 lots, and 10,000 for each of 1,024 items
abbrev pub position_limit : ℕ
position_limit = 10250000

-- 64-bit figures, desk by desk
abbrev pub position_bytes : ℕ → ℕ
position_bytes n = n * 1024

abbrev pub positions : ℕ → Rules
positions n = record {
  width = figures_of_a_desk;
  wrong = λ o x. first (wrong_fields x);
  admits = λ o x f. not (is_some (first (wrong_fields x)));
  entered = λ o x f. shifted f (at_place (target x) (lots x));
  openable = 64;
  least = negsuc 9999;
  most = pos 10000;
}

-- the lots that would bring a desk's net to 0
abbrev pub hedge_need : List ℤ → ℤ
hedge_need = need_of
