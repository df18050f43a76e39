-- A wire as it is made, and what each change of a wire leaves. Assumes nothing.
use Rattle.std.specs.Prelude.{◌≡◌, ℕ, ◌≤◌, Bool, true, false, cond, ◌&&◌, List, [], ◌∷◌, ◌++◌, length, Some, ◌==◌, nat_le, nat_lt, slice_set}
use Rattle.std.specs.List.{slice_get}
use Rattle.frame.specs.Frames.{Saying}
use Rattle.wire.specs.declared.sent.Sent.{Sent}
use Rattle.wire.specs.declared.wire.Wire.{Wire}
use Rattle.std.specs.Borrow.{MutBor}
use Rattle.lent_log.specs.Entries.{entry_at}
use Rattle.lent_log.specs.Changes as log
use Rattle.wire.specs.Posted.{Posted, marked, new_frame, fresh, TakenBy, frames, places}

-- an empty wire over places, for contents of so many bytes
pub record Made (slots : MutBor (List Sent)) (bytes : ℕ) (w : Wire) : Type 0 where
  pub empty : frames w ≡ []
  pub width : w.width ≡ bytes
  pub places : places w ≡ length slots.now
  -- its list is a new one over those places
  pub list : log.Made slots w.log

-- the wire before and after desk d took the frame at a place, where r says whether there is one and d is a desk
pub record Marks (w : Wire) (i d : ℕ) (r : Bool) (w' : Wire) : Type 0 where
  pub answer : r ≡ (nat_lt d 16 && nat_lt i (length (frames w)))
  pub marked : (x : Posted) → nat_lt d 16 ≡ true → slice_get (frames w) i ≡ Some x → frames w' ≡ slice_set (frames w) i (marked d x)
  -- in its list, that frame alone is replaced: by one that differs in who took it, and in nothing else
  pub list : (f : Sent) → nat_lt d 16 ≡ true → entry_at w.log i ≡ Some f → (f' : Sent) × (TakenBy d f f' × log.Replaced w.log i f' r w'.log)
  pub width : w'.width ≡ w.width
  pub places : places w' ≡ places w
  pub unchanged : r ≡ false → w' ≡ w

-- the wire before and after desk d put a frame that says y at its end, where r says whether there was room and the content has its size
pub record Posts (w : Wire) (d : ℕ) (y : Saying) (r : Bool) (w' : Wire) : Type 0 where
  pub answer : r ≡ (length y.content == w.width && (nat_le (length y.content) 24 && nat_lt (length (frames w)) (places w)))
  pub frames : frames w' ≡ cond r (frames w ++ new_frame d y.kind y.origin y.number y.content ∷ []) (frames w)
  -- a content of the right size is put at the end of its list, if there is room
  pub list : length y.content ≡ w.width → length y.content ≤ 24 → log.Pushed w.log (fresh d y.kind y.origin y.number y.content) r w'.log
  pub width : w'.width ≡ w.width
  pub places : places w' ≡ places w
  pub unchanged : r ≡ false → w' ≡ w
