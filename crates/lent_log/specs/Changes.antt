-- A log as it is made, and what each change of a log leaves.
use Rattle.std.specs.Prelude.{◌≡◌, ℕ, ◌+◌, ◌-◌, Bool, false, cond, List, [], ◌∷◌, ◌++◌, length, nat_lt, slice_set}
use Rattle.std.specs.Borrow.{MutBor}
use Rattle.lent_log.specs.declared.Log.{Log}
use Rattle.lent_log.specs.Entries.{entries_of, size_of, room_of}

module _ {T : Type 0} where
  -- a new log over the places p
  pub record Made (p : MutBor (List T)) (l : Log T) : Type 0 where
    pub empty : entries_of l ≡ []
    pub start : l.len ≡ 0
    pub room : room_of l ≡ length p.now
    pub places : l.slots ≡ p

  -- the log before and after x was put at its end, where r says whether it was
  pub record Pushed (l : Log T) (x : T) (r : Bool) (l' : Log T) : Type 0 where
    pub answer : r ≡ nat_lt 0 (room_of l)
    pub entries : entries_of l' ≡ cond r (entries_of l ++ x ∷ []) (entries_of l)
    -- no place is written but the first behind the entries
    pub places : l'.slots.now ≡ cond r (slice_set l.slots.now (size_of l) x) l.slots.now
    pub width : length l'.slots.now ≡ length l.slots.now
    pub used : l'.len ≡ cond r (l.len + 1) l.len
    pub room : room_of l' ≡ room_of l - 1
    pub memory : l'.slots.ghost_name ≡ l.slots.ghost_name
    pub unchanged : r ≡ false → l' ≡ l

  -- the log before and after x was put in the place of entry i, where r says whether it was
  pub record Replaced (l : Log T) (i : ℕ) (x : T) (r : Bool) (l' : Log T) : Type 0 where
    pub answer : r ≡ nat_lt i (size_of l)
    pub entries : entries_of l' ≡ cond r (slice_set (entries_of l) i x) (entries_of l)
    -- no place is written but that of the entry
    pub places : l'.slots.now ≡ cond r (slice_set l.slots.now i x) l.slots.now
    pub width : length l'.slots.now ≡ length l.slots.now
    pub used : l'.len ≡ l.len
    pub room : room_of l' ≡ room_of l
    pub memory : l'.slots.ghost_name ≡ l.slots.ghost_name
    pub unchanged : r ≡ false → l' ≡ l
