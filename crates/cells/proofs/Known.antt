-- What is known of cells: when one is there, that it is zero in zeroed bytes, and what a write makes of them.
use Rattle.std.proofs.Common.{◌≡◌, ℕ, ◌+◌, ◌*◌, ◌≤◌, Bool, true, cond, eqb, List, length, drop, replicate, is_some, Some, refl, ⊎_elim, arith}
use lib.Seq.{paste}
use Rattle.std.proofs.lemmas.List.{length-replicate}
use Rattle.std.proofs.lemmas.Slice.{put_mid-paste, drop-put_mid}
use Rattle.std.proofs.lemmas.Bool.{cases_eq, leb-true, true≢false}
use Rattle.std.proofs.lemmas.Bool.Decides.{nat_tests}
use Rattle.std.proofs.lemmas.Grind.{common_steps, elements}
use Rattle.cells.specs.declared.Cells.{Cells}
use Rattle.cells.specs.Cell.{there, cell, Put}
use Rattle.cells.proofs.Pieces.{part, here, other}

-- a cell that ends within the bytes is there
pub there_within : (c : Cells) (i : ℕ) → (i + 1) * c.width ≤ length c.bytes.now → there c i ≡ true
there_within c i h = grind (arith, nat_tests)

-- whether cell i is there, by its value
pub some_cell : (c : Cells) (i : ℕ) → is_some (cell c i) ≡ there c i
some_cell c i = grind (arith, nat_tests)

-- a cell has the width
pub length_cell : (c : Cells) (i : ℕ) (x : List ℕ) → cell c i ≡ Some x → length x ≡ c.width
length_cell c i x e = grind (arith, common_steps, nat_tests)

zeros : (n a w : ℕ) → a + w ≤ n → part a w (replicate n 0) ≡ replicate w 0
zeros n a w h = grind (arith, elements)

-- a cell of zeroed bytes is zero
pub cell_zero : (c : Cells) (n i : ℕ) → c.bytes.now ≡ replicate n 0 → there c i ≡ true → cell c i ≡ Some (replicate c.width 0)
cell_zero c n i z t = let y = zeros n (i * c.width) c.width in grind (arith, nat_tests, length-replicate {A = ℕ} n 0, y)

-- a write leaves what lies behind its cell
pub behind_put : (c c' : Cells) (i : ℕ) (x : List ℕ) (r : Bool) (n : ℕ) → Put c i x r c' → i * c.width + c.width ≤ n → drop n c'.bytes.now ≡ drop n c.bytes.now
behind_put c c' i x r n p h =
    let q = put_mid-paste (i * c.width) c.width c.bytes.now x x c.width refl refl in
    let s = drop-put_mid (i * c.width) c.width c.bytes.now x n h in
    grind (arith, nat_tests)

module _ (c c' : Cells) (i : ℕ) (x : List ℕ) (t : there c i ≡ true) (l : length x ≡ c.width) (w : c'.width ≡ c.width) (m : c'.bytes.ghost_name ≡ c.bytes.ghost_name) (p : c'.bytes.now ≡ paste c.bytes.now (i * c.width) x c.width) where
  within : i * c.width + c.width ≤ length c.bytes.now
  within = leb-true _ _ t

  same_size : length c'.bytes.now ≡ length c.bytes.now
  same_size = grind (arith, common_steps)

  same_there : (j : ℕ) → there c' j ≡ there c j
  same_there j = grind (arith, same_size)

  at_cells : (j : ℕ) → cell c' j ≡ cond (eqb j i) (Some x) (cell c j)
  at_cells j =
      let s = same_there j in
      let h = here c.bytes.now x (i * c.width) c.width within l in
      let o = other c.bytes.now x i j c.width within l in
      ⊎_elim (λ e. grind (arith, nat_tests)) (λ e. grind (arith, nat_tests, o e)) (cases_eq j i)

  -- the write of x over the bytes of cell i is what `put` promises
  pub written : Put c i x true c'
  written = record {
    answer = grind (arith, nat_tests);
    cells = at_cells;
    bytes = p;
    size = same_size;
    width = w;
    memory = m;
    unchanged = λ e. absurd (true≢false e);
  }
