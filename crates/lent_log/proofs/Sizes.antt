-- The size of a log, its room, and what its places hold.
use Rattle.std.proofs.Common.{◌≡◌, ℕ, ◌+◌, ◌<◌, ◌≤◌, ltb, List, length, get_or, is_some, Some, None, arith}
use Rattle.std.proofs.lemmas.List.{length-take, get_or-take}
use Rattle.std.proofs.lemmas.Option.{slice_get_within, slice_get-get_or, slice_get_past, slice_get_cases, get_or_from_slice_get}
use Rattle.std.proofs.lemmas.Bool.Decides.{nat_tests}
use Rattle.std.specs.List.{slice_get}
use Rattle.lent_log.specs.declared.Log.{Log}
use Rattle.lent_log.specs.Entries.{entries_of, size_of, room_of, entry_at}

-- whether there is an element at a place
pub some_nth : {T : Type 0} (xs : List T) (i : ℕ) → is_some (slice_get xs i) ≡ ltb i (length xs)
some_nth xs i = let at = slice_get_cases xs i in grind (arith, nat_tests)

module _ {T : Type 0} (l : Log T) where
  -- the size is the length that the log keeps
  pub size_is : size_of l ≡ l.len
  size_is = omega (arith, length-take l.len l.slots.now)

  -- the size never passes the places
  pub size_within : size_of l ≤ length l.slots.now
  size_within = omega (arith, size_is)

  pub size_room : size_of l + room_of l ≡ length l.slots.now
  size_room = omega (arith, size_is)

  -- an entry is what its place holds
  pub get_or_entries : (i : ℕ) (d : T) → i < size_of l → get_or (entries_of l) i d ≡ get_or l.slots.now i d
  get_or_entries i d h = get_or-take l.len l.slots.now i d (omega (arith, size_is))

  pub entry_some : (i : ℕ) (d : T) → i < size_of l → entry_at l i ≡ Some (get_or (entries_of l) i d)
  entry_some = slice_get-get_or (entries_of l)

  pub entry_none : (i : ℕ) → size_of l ≤ i → entry_at l i ≡ None
  entry_none = slice_get_past (entries_of l)

  -- whether there is an entry at a place
  pub entry_there : (i : ℕ) → is_some (entry_at l i) ≡ ltb i (size_of l)
  entry_there = some_nth (entries_of l)

  pub entry_within : (i : ℕ) (x : T) → entry_at l i ≡ Some x → i < size_of l
  entry_within = slice_get_within (entries_of l)

  pub entry_is : (i : ℕ) (x d : T) → entry_at l i ≡ Some x → get_or (entries_of l) i d ≡ x
  entry_is = get_or_from_slice_get (entries_of l)
