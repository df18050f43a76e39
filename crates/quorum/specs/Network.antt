-- The broadcasts of all identities at once, over one wire. Assumes nothing.
use Rattle.std.specs.Prelude.{◌≡◌, ℕ, ◌+◌, ◌*◌, ◌<◌, ◌≤◌, Bool, true, cond, ◌&&◌, List, [], ◌∷◌, ◌++◌, map, length, Some, None, Option, ◌==◌, slice_index_or, slice_set}
use Rattle.std.specs.List.{All}
use Rattle.quorum.specs.Frames.{Setting, Valid, Correct, put, Frame, new, mark}
use Rattle.quorum.specs.Machine.{Protocol, State, Laws}
use Rattle.quorum.specs.Parts.{part}

-- A frame with its identity, the origin and its number.
pub record Named (K C : Type 0) : Type 0 where
  pub origin : ℕ
  pub number : ℕ
  pub frame : Frame K C

abbrev pub named : {K C : Type 0} → ℕ → ℕ → Frame K C → Named K C
named o m f = record { origin = o; number = m; frame = f }

abbrev pub same_identity : ℕ → ℕ → ℕ → ℕ → Bool
same_identity o m p l = p == o && l == m

-- the frames of an identity
abbrev pub of : {K C : Type 0} → ℕ → ℕ → Named K C → Bool
of o m x = same_identity o m x.origin x.number

abbrev pub wire_of : {K C : Type 0} → ℕ → ℕ → List (Named K C) → List (Frame K C)
wire_of o m w = part (of o m) (λ x. x.frame) w

-- What the desks hold and what was offered, by origin and number, and the wire.
pub record Network (D K C : Type 0) : Type 0 where
  pub desk : ℕ → ℕ → ℕ → D
  pub offered : ℕ → ℕ → Option C
  pub wire : List (Named K C)

-- what is there of an identity
abbrev pub view : {D K C : Type 0} → Network D K C → ℕ → ℕ → State D K C
view s o m = record { desk = s.desk o m; offered = s.offered o m; wire = wire_of o m s.wire }

-- f with v at an identity
abbrev pub puts : {A : Type 0} → (ℕ → ℕ → A) → ℕ → ℕ → A → ℕ → ℕ → A
puts f o m v = λ p l. cond (same_identity o m p l) v (f p l)

abbrev pub opening : {D K C : Type 0} → Protocol D K C → Network D K C
opening P = record { desk = λ o m d. P.blank; offered = λ o m. None; wire = [] }

abbrev pub offering_at : {D K C : Type 0} → Protocol D K C → Network D K C → ℕ → ℕ → C → Network D K C
offering_at P s o m c = record { desk = s.desk; offered = puts s.offered o m (Some c); wire = s.wire ++ named o m (new o P.first c) ∷ [] }

-- the network once d received a frame of an identity; w is the wire
abbrev pub received_at : {D K C : Type 0} → Protocol D K C → (ℕ → Setting C) → Network D K C → List (Named K C) → ℕ → ℕ → ℕ → ℕ → K → C → Network D K C
received_at P S s w o m d p k c =
    let D' = P.receive (S o) (s.desk o m d) p k c in
    record {
      desk = puts s.desk o m (put (s.desk o m) d D');
      offered = s.offered;
      wire = w ++ map (named o m) (P.sends (S o) d (s.desk o m d) D' c);
    }

-- The settings of all origins have one n, t and faulty desks.
pub record Common (C : Type 0) : Type 0 where
  pub n : ℕ
  pub t : ℕ
  pub faulty : ℕ → Bool
  pub same : C → C → Bool

abbrev pub setting : {C : Type 0} → Common C → ℕ → Setting C
setting H o = record { n = H.n; t = H.t; faulty = H.faulty; origin = o; same = H.same }

pub data Action {D K C : Type 0} (P : Protocol D K C) (H : Common C) (s : Network D K C) : Network D K C → Type 0 where
  offer : (o m : ℕ) (c : C) → Correct (setting H o) o → s.offered o m ≡ None → Action P H s (offering_at P s o m c)
  take : (d i : ℕ) (x : Named K C) → Correct (setting H x.origin) d → i < length s.wire → x ≡ slice_index_or s.wire i x →
      Action P H s (received_at P (setting H) s (slice_set s.wire i (named x.origin x.number (mark d x.frame))) x.origin x.number d x.frame.sender x.frame.kind x.frame.content)
  feign : (o m d p : ℕ) (k : K) (c : C) → Correct (setting H o) d → p < H.n → H.faulty p ≡ true → (k ≡ P.first → p ≡ o) →
      Action P H s (received_at P (setting H) s s.wire o m d p k c)

pub data Attained {D K C : Type 0} (P : Protocol D K C) (H : Common C) : Network D K C → Type 0 where
  at_outset : Attained P H (opening P)
  then_action : {s s' : Network D K C} → Attained P H s → Action P H s s' → Attained P H s'

-- The laws hold of every identity, in every network that is arrived at, where more than m times t desks are.
abbrev pub LawfulEverywhere : {D K C : Type 0} → Protocol D K C → ℕ → Type 0
LawfulEverywhere {D} {K} {C} P m = (H : Common C) → Valid (setting H 0) → m * H.t < H.n → (s : Network D K C) → Attained P H s → (o l : ℕ) → Laws P (setting H o) (view s o l)

-- every frame has an identity of n desks and so many numbers, from 1 on
abbrev pub Identified : {K C : Type 0} → ℕ → ℕ → List (Named K C) → Type 0
Identified n numbers w = All (λ x. (x.origin < n) × (1 ≤ x.number) × (x.number ≤ numbers)) w

-- then the wire of all identities does not grow past
abbrev pub BoundedEverywhere : {D K C : Type 0} → Protocol D K C → ℕ → Type 0
BoundedEverywhere {D} {K} {C} P m =
    (H : Common C) → Valid (setting H 0) → m * H.t < H.n → (s : Network D K C) → Attained P H s →
    (numbers : ℕ) → Identified H.n numbers s.wire → length s.wire ≤ H.n * numbers * (2 * H.n + 1)
