-- What holds of every state that the double echo broadcast comes to: the invariant from which the laws follow.
use Rattle.std.specs.Prelude.{◌≡◌, ℕ, ◌+◌, ◌*◌, ◌<◌, ◌≤◌, Bool, true, cond, ◌&&◌, length, Some, None, Option, ◌==◌, is_some}
use Rattle.std.specs.List.{All, list_any}
use Rattle.desks.specs.Sets.{one, how_many}
use Rattle.quorum.specs.Frames.{Setting, Correct, is_same, among, faults, Frame}
use Rattle.quorum.specs.DoubleEcho.{Kind, init, echo, ready, eqk, Desk, State, votes}

-- what p has sent as kind k
abbrev pub says : {C : Type 0} → Setting C → State C → ℕ → Kind → Option C
says S s p init = cond (p == S.origin) s.offered None
says S s p echo = (s.desk p).echo_sent
says S s p ready = (s.desk p).ready_sent

-- a frame of kind k by p
abbrev pub by : {C : Type 0} → ℕ → Kind → Frame Kind C → Bool
by p k f = f.sender == p && eqk f.kind k

-- what the content c of p leaves at d when d takes it
abbrev pub Heard : {C : Type 0} → State C → ℕ → ℕ → Kind → C → Type 0
Heard s d p init c = is_some (s.desk d).echo_sent ≡ true
Heard s d p echo c = (s.desk d).echoes p ≡ Some c
Heard s d p ready c = (s.desk d).readies p ≡ Some c

-- a frame on the wire is what its sender sent, and whoever took it has it
pub record Told {C : Type 0} (S : Setting C) (s : State C) (f : Frame Kind C) : Type 0 where
  pub sent_by : Correct S f.sender
  pub said : says S s f.sender f.kind ≡ Some f.content
  pub heard : (d : ℕ) → Correct S d → f.taken d ≡ true → Heard s d f.sender f.kind f.content

-- more than half of n + t desks could have voted for c by an ECHO: no two contents are backed at once
abbrev pub Backed : {C : Type 0} → Setting C → State C → C → Type 0
Backed S s c = S.n + S.t < 2 * (among S (λ q. is_same S (s.desk q).echo_sent c) + faults S)

-- what d recorded of a peer that is not faulty, that peer sent
pub record TrueVotes {C : Type 0} (S : Setting C) (s : State C) (D : Desk C) : Type 0 where
  pub echoes : (q : ℕ) (x : C) → Correct S q → D.echoes q ≡ Some x → (s.desk q).echo_sent ≡ Some x
  pub readies : (q : ℕ) (x : C) → Correct S q → D.readies q ≡ Some x → (s.desk q).ready_sent ≡ Some x

-- the desk did what its votes ask for
pub record Settled {C : Type 0} (S : Setting C) (D : Desk C) : Type 0 where
  pub by_votes : (x : C) → D.accepted ≡ Some x → 2 * S.t < votes S D.readies x
  pub echoed : (x : C) → S.n + S.t < 2 * votes S D.echoes x → is_some D.ready_sent ≡ true
  pub joined : (x : C) → S.t < votes S D.readies x → is_some D.ready_sent ≡ true
  pub done : (x : C) → 2 * S.t < votes S D.readies x → is_some D.accepted ≡ true

pub record Sound {C : Type 0} (S : Setting C) (s : State C) : Type 0 where
  pub settled : (d : ℕ) → Correct S d → Settled S (s.desk d)
  pub true_votes : (d : ℕ) → Correct S d → TrueVotes S s (s.desk d)
  pub backed : (d : ℕ) (x : C) → Correct S d → (s.desk d).ready_sent ≡ Some x → Backed S s x
  pub from_origin : (d : ℕ) (x : C) → Correct S d → Correct S S.origin → (s.desk d).echo_sent ≡ Some x → s.offered ≡ Some x
  pub frames : All (Told S s) s.wire
  pub posted : (p : ℕ) (k : Kind) → Correct S p → is_some (says S s p k) ≡ true → list_any (by p k) s.wire ≡ true
  pub sized : length s.wire ≤ how_many (λ q. is_some (s.desk q).echo_sent) S.n + how_many (λ q. is_some (s.desk q).ready_sent) S.n + one (is_some s.offered)
