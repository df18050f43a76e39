-- The state of a carrier over a protocol, what it means, and the network that it is. Assumes nothing.
use Rattle.std.specs.Prelude.{ℕ, zero, suc, Bool, ◌&&◌, List, map, None, Option, ◌==◌}
use Rattle.std.specs.List.{slice_get}
use Rattle.std.specs.Str.{bytes_eq}
use Rattle.desks.specs.declared.group.Group.{Group}
use Rattle.wire.specs.Posted.{Posted}
use Rattle.quorum.specs.Frames.{Frame}
use Rattle.quorum.specs.Network.{Named, Network, Common}
use Rattle.quorum.specs.Parts.{part}
use Rattle.carrier.specs.Meaning.{Content, Meaning, faulty}
use Rattle.exchange.specs.Broadcast.{Broadcast, is_init}

pub record Exact (D : Type 0) : Type 0 where
  pub group : Group
  pub places : ℕ
  -- what a desk holds, by origin, number and desk
  pub desk : ℕ → ℕ → ℕ → D
  pub wire : List Posted

-- the contents that desk d offered: those of its INIT frames, the oldest first
abbrev pub begun_by : ℕ → Posted → Bool
begun_by d f = is_init f.kind && f.sender == d

abbrev pub offers_of : List Posted → ℕ → List Content
offers_of w d = part (begun_by d) (λ f. f.content) w

-- the offer under a number, from 1 on
abbrev pub numbered : List Content → ℕ → Option Content
numbered xs zero = None
numbered xs (suc k) = slice_get xs k

-- a group as the protocols see it: contents are told apart by their bytes
abbrev pub common : Group → Common Content
common g = record { n = g.desks; t = g.faults; faulty = faulty g; same = bytes_eq }

module _ {D K : Type 0} (B : Broadcast D K) where
  -- a frame as the protocol sees it, and a frame of the protocol on the wire
  abbrev pub named_of : Posted → Named K Content
  named_of f = record {
    origin = f.origin;
    number = f.number;
    frame = record { sender = f.sender; kind = B.decode f.kind; content = f.content; taken = f.taken };
  }

  abbrev pub post_of : ℕ → ℕ → Frame K Content → Posted
  post_of o k f = record { sender = f.sender; kind = B.code f.kind; origin = o; number = k; content = f.content; taken = f.taken }

  -- the network of all identities
  abbrev pub network : Exact D → Network D K Content
  network x = record { desk = x.desk; offered = λ o m. numbered (offers_of x.wire o) m; wire = map named_of x.wire }

  abbrev pub meaning_of : Exact D → Meaning
  meaning_of x = record {
    group = x.group;
    places = x.places;
    wire = x.wire;
    accepted = λ d o k. B.protocol.accepted (x.desk o k d);
    offered = offers_of x.wire;
  }
