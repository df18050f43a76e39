-- A frame on the wire as plain values, and the frames of a wire. Assumes nothing.
use Rattle.std.specs.Prelude.{◌≡◌, ℕ, ◌-◌, Bool, false, ◌++◌, ◌||◌, List, map, length, take, replicate, ◌==◌}
use Rattle.desks.specs.Sets.{has_desk}
use Rattle.frame.specs.declared.kinds.Kind.{Kind}
use Rattle.lent_log.specs.Entries.{entries_of}
use Rattle.wire.specs.declared.sent.Sent.{Sent}
use Rattle.wire.specs.declared.wire.Wire.{Wire}

-- who sent a frame, what it says, and which desks took it
pub record Posted : Type 0 where
  pub sender : ℕ
  pub kind : Kind
  pub origin : ℕ
  pub number : ℕ
  pub content : List ℕ
  pub taken : ℕ → Bool

-- a frame in memory, where contents have so many bytes
abbrev pub posted : ℕ → Sent → Posted
posted width f = record {
  sender = f.sender;
  kind = f.kind;
  origin = f.origin;
  number = f.number;
  content = take width f.content;
  taken = has_desk f.taken.bits;
}

-- a frame that none took
abbrev pub new_frame : ℕ → Kind → ℕ → ℕ → List ℕ → Posted
new_frame d k o m c = record { sender = d; kind = k; origin = o; number = m; content = c; taken = λ q. false }

-- as it is kept in memory: the bytes that its content leaves free are 0
abbrev pub fresh : ℕ → Kind → ℕ → ℕ → List ℕ → Sent
fresh d k o m c = record { sender = d; kind = k; origin = o; number = m; content = c ++ replicate (24 - length c) 0; taken = record { bits = 0 } }

-- taken by that desk too
abbrev pub marked : ℕ → Posted → Posted
marked d p = record { sender = p.sender; kind = p.kind; origin = p.origin; number = p.number; content = p.content; taken = λ q. (q == d) || p.taken q }

-- the same frame, taken by that desk too
abbrev pub TakenBy : ℕ → Sent → Sent → Type 0
TakenBy d f f' = (width : ℕ) → posted width f' ≡ marked d (posted width f)

-- the frames of a wire, the oldest first
unfoldable pub frames : Wire → List Posted
frames w = map (posted w.width) (entries_of w.log)

-- how many it has places for
abbrev pub places : Wire → ℕ
places w = length w.log.slots.now
