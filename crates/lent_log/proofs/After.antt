-- The size of a log and the entry at each place, after a push and after a replacement.
use Rattle.std.proofs.Common.{◌≡◌, ℕ, ◌+◌, ◌<◌, Bool, true, cond, ◌&&◌, eqb, ◌≢◌, List, [], ◌∷◌, ◌++◌, length, get_or, set, Some, arith}
use Rattle.std.proofs.lemmas.Grind.{common_steps}
use Rattle.std.proofs.lemmas.List.{length-set, length_push, get_or-set_same, get_or-set_other, get_or_append_left, get_or_push}
use Rattle.std.proofs.lemmas.Bool.Decides.{nat_tests}
use Rattle.std.proofs.lemmas.Option.{gets}
use Rattle.std.specs.List.{slice_get}
use Rattle.lent_log.specs.declared.Log.{Log}
use Rattle.lent_log.specs.Entries.{entries_of, size_of, room_of, entry_at}
use Rattle.lent_log.specs.Changes.{Pushed, Replaced}

module _ {T : Type 0} where
  nth_push : (xs : List T) (x : T) (i : ℕ) → slice_get (xs ++ x ∷ []) i ≡ cond (eqb i (length xs)) (Some x) (slice_get xs i)
  nth_push xs x i = grind (arith, common_steps, gets)

  nth_set : (xs : List T) (i : ℕ) (x : T) (j : ℕ) → i < length xs → slice_get (set xs i x) j ≡ cond (eqb j i) (Some x) (slice_get xs j)
  nth_set xs i x j h = grind (arith, common_steps, gets)

  module _ (l : Log T) (x : T) (r : Bool) (l' : Log T) (p : Pushed l x r l') where
    -- with room it is taken
    pub pushed_fits : 0 < room_of l → r ≡ true
    pushed_fits h = grind (arith, nat_tests)

    pub pushed_size : size_of l' ≡ cond r (size_of l + 1) (size_of l)
    pushed_size = grind (arith, length_push)

    -- the entry at each place
    pub pushed_at : (i : ℕ) → entry_at l' i ≡ cond (r && eqb i (size_of l)) (Some x) (entry_at l i)
    pushed_at i = grind (arith, nth_push)

    -- what stood in the log stands there still
    pub pushed_old : (i : ℕ) (d : T) → i < size_of l → get_or (entries_of l') i d ≡ get_or (entries_of l) i d
    pushed_old i d h = grind (arith, get_or_append_left)

    pub pushed_new : (d : T) → r ≡ true → get_or (entries_of l') (size_of l) d ≡ x
    pushed_new d t = grind (arith, get_or_push)

  module _ (l : Log T) (i : ℕ) (x : T) (r : Bool) (l' : Log T) (p : Replaced l i x r l') where
    -- an entry that is there is replaced
    pub replaced_there : i < size_of l → r ≡ true
    replaced_there h = grind (arith, nat_tests)

    pub replaced_size : size_of l' ≡ size_of l
    replaced_size = grind (arith, length-set)

    -- the entry at each place
    pub replaced_at : (j : ℕ) → entry_at l' j ≡ cond (r && eqb j i) (Some x) (entry_at l j)
    replaced_at j = grind (arith, nat_tests, nth_set)

    -- the other entries stay
    pub replaced_other : (j : ℕ) (d : T) → j ≢ i → get_or (entries_of l') j d ≡ get_or (entries_of l) j d
    replaced_other j d n = grind (arith, get_or-set_other)

    pub replaced_here : (d : T) → r ≡ true → get_or (entries_of l') i d ≡ x
    replaced_here d t = grind (arith, nat_tests, get_or-set_same)
