-- A broadcast of one identity as a machine: what a protocol has to say, the states, the steps, and what is claimed of the states. Assumes nothing.
use Rattle.std.specs.Prelude.{◌≡◌, ℕ, ◌+◌, ◌*◌, ◌<◌, ◌≤◌, true, List, [], ◌∷◌, ◌++◌, length, Some, None, Option, slice_index_or, slice_set}
use Rattle.quorum.specs.Frames.{Setting, Valid, Correct, put, Frame, new, mark, AllTaken}

-- A protocol over what a desk holds, D, the kinds of its frames, K, and the contents, C.
pub record Protocol (D K C : Type 0) : Type 0 where
  -- what a desk holds at first
  pub blank : D
  -- the kind of the origin's frame
  pub first : K
  -- what a desk holds once it received a frame from a peer
  pub receive : Setting C → D → ℕ → K → C → D
  -- the frames that desk d then sends: what it held before and after, and the content received
  pub sends : Setting C → ℕ → D → D → C → List (Frame K C)
  -- what a desk accepted
  pub accepted : D → Option C

pub record State (D K C : Type 0) : Type 0 where
  pub desk : ℕ → D
  pub offered : Option C
  pub wire : List (Frame K C)

abbrev pub start : {D K C : Type 0} → Protocol D K C → State D K C
start P = record { desk = λ d. P.blank; offered = None; wire = [] }

-- The state once the origin offered c.
abbrev pub offering : {D K C : Type 0} → Protocol D K C → Setting C → State D K C → C → State D K C
offering P S s c = record { desk = s.desk; offered = Some c; wire = s.wire ++ new S.origin P.first c ∷ [] }

-- The state once d received; w is the wire, with the frame marked if d took it from there.
abbrev pub received : {D K C : Type 0} → Protocol D K C → Setting C → State D K C → List (Frame K C) → ℕ → ℕ → K → C → State D K C
received P S s w d p k c =
    let D' = P.receive S (s.desk d) p k c in
    record { desk = put s.desk d D'; offered = s.offered; wire = w ++ P.sends S d (s.desk d) D' c }

-- The steps: the origin, if it is not faulty, offers once; a desk that is not faulty takes a frame of the wire, any number of times;
-- or it is sent anything by a faulty desk, but the first kind by the origin alone.
pub data Step {D K C : Type 0} (P : Protocol D K C) (S : Setting C) (s : State D K C) : State D K C → Type 0 where
  offer : (c : C) → Correct S S.origin → s.offered ≡ None → Step P S s (offering P S s c)
  take : (d i : ℕ) (f : Frame K C) → Correct S d → i < length s.wire → f ≡ slice_index_or s.wire i f →
      Step P S s (received P S s (slice_set s.wire i (mark d f)) d f.sender f.kind f.content)
  feign : (d p : ℕ) (k : K) (c : C) → Correct S d → p < S.n → S.faulty p ≡ true → (k ≡ P.first → p ≡ S.origin) →
      Step P S s (received P S s s.wire d p k c)

pub data Reached {D K C : Type 0} (P : Protocol D K C) (S : Setting C) : State D K C → Type 0 where
  at_start : Reached P S (start P)
  then_step : {s s' : State D K C} → Reached P S s → Step P S s s' → Reached P S s'

-- What is claimed of a state.
pub record Laws {D K C : Type 0} (P : Protocol D K C) (S : Setting C) (s : State D K C) : Type 0 where
  -- no two accept different contents
  pub agree : (d e : ℕ) (a b : C) → Correct S d → Correct S e → P.accepted (s.desk d) ≡ Some a → P.accepted (s.desk e) ≡ Some b → a ≡ b
  -- of an origin that is not faulty nothing is accepted but what it offered
  pub true_to_origin : (d : ℕ) (a : C) → Correct S d → Correct S S.origin → P.accepted (s.desk d) ≡ Some a → s.offered ≡ Some a
  -- once all is taken, what one accepted all accepted
  pub together : AllTaken S s.wire → (d e : ℕ) (a : C) → Correct S d → Correct S e → P.accepted (s.desk d) ≡ Some a → P.accepted (s.desk e) ≡ Some a
  -- and what the origin offered all accepted
  pub delivered : AllTaken S s.wire → (d : ℕ) (a : C) → Correct S S.origin → Correct S d → s.offered ≡ Some a → P.accepted (s.desk d) ≡ Some a
  -- the wire does not grow past
  pub short : length s.wire ≤ 2 * S.n + 1

-- The laws hold of all that is reached, where more than m times t desks are.
abbrev pub Lawful : {D K C : Type 0} → Protocol D K C → ℕ → Type 0
Lawful {D} {K} {C} P m = (S : Setting C) → Valid S → m * S.t < S.n → (s : State D K C) → Reached P S s → Laws P S s
