-- What a log holds: its entries, how many, how many more it takes, and the entry at a place.
use Rattle.std.specs.Prelude.{ℕ, ◌-◌, List, length, take, Option}
use Rattle.std.specs.List.{slice_get}
use Rattle.lent_log.specs.declared.Log.{Log}

module _ {T : Type 0} where
  -- what stands in the places in use, the oldest first
  abbrev pub entries_of : Log T → List T
  entries_of l = take l.len l.slots.now

  abbrev pub size_of : Log T → ℕ
  size_of l = length (entries_of l)

  -- how many more it takes
  abbrev pub room_of : Log T → ℕ
  room_of l = length l.slots.now - size_of l

  -- the entry at a place, none past the last
  abbrev pub entry_at : Log T → ℕ → Option T
  entry_at l i = slice_get (entries_of l) i
