-- What a call of a carrier may change, whatever the carrier. Assumes nothing.
use Rattle.std.specs.Prelude.{◌≡◌, ℕ, ◌+◌, ◌≤◌, Bool, true, false, ◌≢◌, ◌⊎◌, List, [], ◌∷◌, ◌++◌, length, Some, None, Ok, Err, Result, slice_set}
use Rattle.std.specs.List.{slice_get, All}
use Rattle.desks.specs.declared.group.Group.{Group}
use Rattle.desks.specs.Firsts.{first}
use Rattle.frame.specs.declared.kinds.Kind.TheVariants.{Init}
use Rattle.frame.specs.declared.kinds.Kinds.{Kinds}
use Rattle.frame.specs.Readings.{said}
use Rattle.wire.specs.Posted.{Posted, marked, new_frame}
use Rattle.carrier.specs.declared.faults.CarrierFault.{CarrierFault}
use Rattle.carrier.specs.declared.faults.CarrierFault.TheVariants.{Second}
use Rattle.carrier.specs.Meaning.{Content, Meaning}
use Rattle.carrier.specs.Declines.{most_sent, offer_tests, take_tests, feign_tests}

-- the frames sent, and whether a content was accepted
abbrev pub Reply : Type 0
Reply = Result (ℕ × Bool) CarrierFault

-- a new carrier: no frame, nothing accepted, nothing offered
pub record Cleared (g : Group) (room : ℕ) (m : Meaning) : Type 0 where
  pub group : m.group ≡ g
  pub places : m.places ≡ room
  pub wire : m.wire ≡ []
  pub accepted : (d o k : ℕ) → m.accepted d o k ≡ None
  pub offered : (d : ℕ) → m.offered d ≡ []

-- a new frame of desk d under an identity with that content, taken by none
pub record Fresh (d o k : ℕ) (c : Content) (f : Posted) : Type 0 where
  pub sender : f.sender ≡ d
  pub origin : f.origin ≡ o
  pub number : f.number ≡ k
  pub content : f.content ≡ c
  pub untaken : (e : ℕ) → f.taken e ≡ false

-- the wire goes on after `before` with so many new frames, at most as many as a desk sends
pub record Adds (before after : List Posted) (d o k : ℕ) (c : Content) (sent : ℕ) : Type 0 where
  pub frames : List Posted
  pub count : length frames ≡ sent
  pub few : sent ≤ most_sent
  pub whole : after ≡ before ++ frames
  pub fresh : All (Fresh d o k c) frames

-- what the desks accepted is as it was
abbrev pub AcceptsNothing : Meaning → Meaning → Type 0
AcceptsNothing m m' = (e p j : ℕ) → m'.accepted e p j ≡ m.accepted e p j

-- desk d accepted c under (o, k), where it had nothing, and all else is as it was
pub record AcceptsOne (m m' : Meaning) (d o k : ℕ) (c : Content) : Type 0 where
  pub none : m.accepted d o k ≡ None
  pub one : m'.accepted d o k ≡ Some c
  pub others : (e p j : ℕ) → ((e ≡ d) × (p ≡ o) × (j ≡ k) → ⊥) → m'.accepted e p j ≡ m.accepted e p j

-- the answer says whether the content was accepted
abbrev pub Accepts : Meaning → Meaning → ℕ → ℕ → ℕ → Content → Bool → Type 0
Accepts m m' d o k c false = AcceptsNothing m m'
Accepts m m' d o k c true = AcceptsOne m m' d o k c

-- nothing but the wire and what desks accepted differs
pub record SameOtherwise (m m' : Meaning) : Type 0 where
  pub group : m'.group ≡ m.group
  pub places : m'.places ≡ m.places
  pub offered : (d : ℕ) → m'.offered d ≡ m.offered d

-- desk d received a content under an identity: `before` is the wire with its marks, and the answer is (sent, accepted)
pub record Received (m m' : Meaning) (before : List Posted) (d o k : ℕ) (c : Content) (sent : ℕ) (accepted : Bool) : Type 0 where
  pub same : SameOtherwise m m'
  pub adds : Adds before m'.wire d o k c sent
  pub accepts : Accepts m m' d o k c accepted

-- desk d offers c under its next number k
pub record Offers (m : Meaning) (d : ℕ) (c : Content) (k : ℕ) (m' : Meaning) : Type 0 where
  pub number : k ≡ length (m.offered d) + 1
  pub offered : m'.offered d ≡ m.offered d ++ c ∷ []
  pub others : (e : ℕ) → e ≢ d → m'.offered e ≡ m.offered e
  pub wire : m'.wire ≡ m.wire ++ new_frame d Init d k c ∷ []
  pub accepted : AcceptsNothing m m'
  pub group : m'.group ≡ m.group
  pub places : m'.places ≡ m.places

abbrev pub Offer : Meaning → ℕ → Content → Result ℕ CarrierFault → Meaning → Type 0
Offer m d c (Ok k) m' = (first (offer_tests m d c) ≡ None) × Offers m d c k m'
Offer m d c (Err f) m' = (first (offer_tests m d c) ≡ Some f) × (m' ≡ m)

-- desk d takes the frame x at place i: exactly that frame is marked for exactly that desk
pub record Takes (m : Meaning) (i d sent : ℕ) (accepted : Bool) (m' : Meaning) : Type 0 where
  pub frame : Posted
  pub there : slice_get m.wire i ≡ Some frame
  pub received : Received m m' (slice_set m.wire i (marked d frame)) d frame.origin frame.number frame.content sent accepted

-- under that identity the desk has accepted another content
abbrev pub HasOther : Meaning → ℕ → ℕ → ℕ → Content → Type 0
HasOther m d o k c = (x : Content) × (m.accepted d o k ≡ Some x) × (x ≢ c)

-- the desk would have accepted a second content: the mark is set and nothing else changed
pub record SecondTaken (m : Meaning) (i d : ℕ) (f : CarrierFault) (m' : Meaning) : Type 0 where
  pub passes : first (take_tests m i d) ≡ None
  pub frame : Posted
  pub there : slice_get m.wire i ≡ Some frame
  pub other : HasOther m d frame.origin frame.number frame.content
  pub fault : f ≡ Second frame.origin
  pub same : SameOtherwise m m'
  pub wire : m'.wire ≡ slice_set m.wire i (marked d frame)
  pub accepted : AcceptsNothing m m'

abbrev pub Take : Meaning → ℕ → ℕ → Reply → Meaning → Type 0
Take m i d (Ok (sent, accepted)) m' = (first (take_tests m i d) ≡ None) × Takes m i d sent accepted m'
Take m i d (Err f) m' = ((first (take_tests m i d) ≡ Some f) × (m' ≡ m)) ⊎ SecondTaken m i d f m'

-- bytes that would give a second content: nothing changed
pub record SecondFeigned (ks : Kinds) (m : Meaning) (p d : ℕ) (bytes : List ℕ) (f : CarrierFault) (m' : Meaning) : Type 0 where
  pub passes : first (feign_tests ks m p d bytes) ≡ None
  pub other : HasOther m d (said bytes).origin (said bytes).number (said bytes).content
  pub fault : f ≡ Second (said bytes).origin
  pub unchanged : m' ≡ m

abbrev pub Feign : Kinds → Meaning → ℕ → ℕ → List ℕ → Reply → Meaning → Type 0
Feign ks m p d bytes (Ok (sent, accepted)) m' =
    (first (feign_tests ks m p d bytes) ≡ None) × Received m m' m.wire d (said bytes).origin (said bytes).number (said bytes).content sent accepted
Feign ks m p d bytes (Err f) m' = ((first (feign_tests ks m p d bytes) ≡ Some f) × (m' ≡ m)) ⊎ SecondFeigned ks m p d bytes f m'
