-- The exact steps of a carrier over a protocol: what each call answers, and the state after it. Assumes nothing.
use Rattle.std.specs.Prelude.{◌≡◌, ℕ, ◌+◌, cond, not, ◌&&◌, List, [], ◌∷◌, ◌++◌, map, length, is_some, Some, None, Ok, Err, Option, Result, slice_set}
use Rattle.std.specs.List.{slice_get}
use Rattle.desks.specs.declared.group.Group.{Group}
use Rattle.desks.specs.Firsts.{first}
use Rattle.frame.specs.declared.kinds.Kind.{Kind}
use Rattle.frame.specs.declared.kinds.Kind.TheVariants.{Init}
use Rattle.frame.specs.Kinds.{known_to}
use Rattle.frame.specs.Frames.{Saying}
use Rattle.frame.specs.Readings.{said}
use Rattle.wire.specs.Posted.{Posted, marked, new_frame}
use Rattle.quorum.specs.Frames.{Setting, put}
use Rattle.quorum.specs.Network.{setting, puts}
use Rattle.carrier.specs.declared.faults.CarrierFault.{CarrierFault}
use Rattle.carrier.specs.declared.faults.CarrierFault.TheVariants.{Second}
use Rattle.carrier.specs.Meaning.{Content}
use Rattle.carrier.specs.Declines.{offer_tests, take_tests, feign_tests}
use Rattle.carrier.specs.Changes.{Reply}
use Rattle.exchange.specs.Broadcast.{Broadcast}
use Rattle.exchange.specs.Exact.{Exact, common, post_of, meaning_of, offers_of}

-- refused with the fault and nothing changed, or done as P says
abbrev pub RefusedOr : {S A F : Type 0} → Option F → S → Result A F → S → Type 0 → Type 0
RefusedOr None s r s' P = P
RefusedOr (Some f) s r s' P = (r ≡ Err f) × (s' ≡ s)

module _ {D K : Type 0} (B : Broadcast D K) where
  -- the setting of an origin
  abbrev pub setting_at : Exact D → ℕ → Setting Content
  setting_at x o = setting (common x.group) o

  -- what desk d holds of an identity once it received a frame from p
  abbrev pub held_after : Exact D → ℕ → ℕ → ℕ → ℕ → Kind → Content → D
  held_after x d o k p kind c = B.protocol.receive (setting_at x o) (x.desk o k d) p (B.decode kind) c

  -- the frames that it then sends
  abbrev pub sent_after : Exact D → ℕ → ℕ → ℕ → ℕ → Kind → Content → List Posted
  sent_after x d o k p kind c = map (post_of B o k) (B.protocol.sends (setting_at x o) d (x.desk o k d) (held_after x d o k p kind c) c)

  -- the state once desk d received a frame of an identity from p; w is the wire with its marks
  abbrev pub received_by : Exact D → List Posted → ℕ → ℕ → ℕ → ℕ → Kind → Content → Exact D
  received_by x w d o k p kind c = record {
    group = x.group;
    places = x.places;
    desk = puts x.desk o k (put (x.desk o k) d (held_after x d o k p kind c));
    wire = w ++ sent_after x d o k p kind c;
  }

  -- what is answered: the frames sent and whether the content was accepted, or that another was
  abbrev pub answer_to : Exact D → ℕ → ℕ → ℕ → ℕ → Kind → Content → Reply
  answer_to x d o k p kind c =
      cond (B.clash (setting_at x o) (x.desk o k d) p (B.decode kind) c) (Err (Second o))
      (Ok (length (sent_after x d o k p kind c), not (is_some (B.protocol.accepted (x.desk o k d))) && is_some (B.protocol.accepted (held_after x d o k p kind c))))

  -- desk d takes the frame at place i
  abbrev pub Took : Exact D → ℕ → ℕ → Option Posted → Reply → Exact D → Type 0
  Took x i d None r x' = ⊥
  Took x i d (Some f) r x' =
      (r ≡ answer_to x d f.origin f.number f.sender f.kind f.content)
      × (x' ≡ received_by x (slice_set x.wire i (marked d f)) d f.origin f.number f.sender f.kind f.content)

  -- desk d receives what bytes say, from p
  abbrev pub Heard : Exact D → ℕ → ℕ → Saying → Reply → Exact D → Type 0
  Heard x p d y r x' =
      (r ≡ answer_to x d y.origin y.number p y.kind y.content) × (x' ≡ received_by x x.wire d y.origin y.number p y.kind y.content)

  -- the state once desk d offered c
  abbrev pub offered_by : Exact D → ℕ → Content → Exact D
  offered_by x d c = record {
    group = x.group;
    places = x.places;
    desk = x.desk;
    wire = x.wire ++ new_frame d Init d (length (offers_of x.wire d) + 1) c ∷ [];
  }

  -- at first
  abbrev pub opened : Group → ℕ → Exact D
  opened g room = record { group = g; places = room; desk = λ o k d. B.protocol.blank; wire = [] }

  -- the exact steps of a carrier whose values stand for these states
  module _ {C : Type 0} (exact : C → Exact D) where
    abbrev pub starts_as : Group → ℕ → C → Type 0
    starts_as g room s = exact s ≡ opened g room

    abbrev pub offers_as : C → ℕ → Content → Result ℕ CarrierFault → C → Type 0
    offers_as s d c r s' =
        RefusedOr (first (offer_tests (meaning_of B (exact s)) d c)) s r s'
        ((r ≡ Ok (length (offers_of (exact s).wire d) + 1)) × (exact s' ≡ offered_by (exact s) d c))

    abbrev pub takes_as : C → ℕ → ℕ → Reply → C → Type 0
    takes_as s i d r s' = RefusedOr (first (take_tests (meaning_of B (exact s)) i d)) s r s' (Took (exact s) i d (slice_get (exact s).wire i) r (exact s'))

    abbrev pub feigns_as : C → ℕ → ℕ → List ℕ → Reply → C → Type 0
    feigns_as s p d bytes r s' = RefusedOr (first (feign_tests (known_to B.factor) (meaning_of B (exact s)) p d bytes)) s r s' (Heard (exact s) p d (said bytes) r (exact s'))
