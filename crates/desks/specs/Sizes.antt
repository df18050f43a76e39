-- The size of an item. Assumes nothing.
use Rattle.std.specs.Prelude.{ℕ}

-- the bytes of an item
abbrev pub item_size : ℕ
item_size = 8
