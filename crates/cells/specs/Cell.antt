-- The bytes of a cell, and what a write to a cell and a clearing leave.
use Rattle.std.specs.Prelude.{◌≡◌, ℕ, ◌+◌, ◌*◌, Bool, false, cond, not, ◌&&◌, List, [], ◌∷◌, length, take, drop, replicate, Some, None, Option, ◌==◌, nat_le}
use Rattle.std.specs.declared.ops.Range.{Range}
use Rattle.std.proofs.Math.Seq.{paste}
use Rattle.desks.specs.Firsts.{Tests}
use Rattle.cells.specs.declared.Cells.{Cells}
use Rattle.cells.specs.declared.CellFault.{CellFault}
use Rattle.cells.specs.declared.CellFault.TheVariants.{Width, Absent}

-- cell i ends within the bytes
abbrev pub there : Cells → ℕ → Bool
there c i = nat_le (i * c.width + c.width) (length c.bytes.now)

-- where the bytes of cell i lie
abbrev pub range_of : Cells → ℕ → Option (Range ℕ)
range_of c i = cond (there c i) (Some (record { start = i * c.width; end = i * c.width + c.width })) None

-- the bytes of cell i
abbrev pub cell : Cells → ℕ → Option (List ℕ)
cell c i = cond (there c i) (Some (take c.width (drop (i * c.width) c.bytes.now))) None

-- why x is not put into cell i, in order
abbrev pub put_tests : Cells → ℕ → List ℕ → Tests CellFault
put_tests c i x =
    (not (length x == c.width), Width)
    ∷ (not (there c i), Absent)
    ∷ []

-- the cells before and after x was put into cell i, where r says whether it was
pub record Put (c : Cells) (i : ℕ) (x : List ℕ) (r : Bool) (c' : Cells) : Type 0 where
  pub answer : r ≡ (there c i && length x == c.width)
  pub cells : (j : ℕ) → cell c' j ≡ cond (r && j == i) (Some x) (cell c j)
  pub bytes : c'.bytes.now ≡ cond r (paste c.bytes.now (i * c.width) x c.width) c.bytes.now
  pub size : length c'.bytes.now ≡ length c.bytes.now
  pub width : c'.width ≡ c.width
  pub memory : c'.bytes.ghost_name ≡ c.bytes.ghost_name
  pub unchanged : r ≡ false → c' ≡ c

-- the cells before and after every byte was set to 0
pub record Cleared (c c' : Cells) : Type 0 where
  pub zero : c'.bytes.now ≡ replicate (length c.bytes.now) 0
  pub width : c'.width ≡ c.width
  pub memory : c'.bytes.ghost_name ≡ c.bytes.ghost_name
