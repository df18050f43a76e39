-- The double echo broadcast of one identity. Assumes nothing.
use Rattle.std.specs.Prelude.{ℕ, ◌+◌, ◌*◌, Bool, true, false, cond, ◌&&◌, ◌||◌, List, ◌++◌, None, Option, ◌==◌, nat_lt}
use Rattle.desks.specs.Sets.{how_many}
use Rattle.quorum.specs.Frames.{Setting, is_same, is_other, settle, Frame, fresh}
use Rattle.quorum.specs.Machine
use Rattle.quorum.specs.Machine.{Protocol, Lawful}

pub data Kind : Type 0 where
  init : Kind
  echo : Kind
  ready : Kind

abbrev pub eqk : Kind → Kind → Bool
eqk init init = true
eqk echo echo = true
eqk ready ready = true
eqk _ _ = false

-- What a desk holds of the identity: the votes that it recorded of each peer, what it sent, what it accepted.
pub record Desk (C : Type 0) : Type 0 where
  pub echoes : ℕ → Option C
  pub readies : ℕ → Option C
  pub echo_sent : Option C
  pub ready_sent : Option C
  pub accepted : Option C

abbrev pub blank : {C : Type 0} → Desk C
blank = record { echoes = λ q. None; readies = λ q. None; echo_sent = None; ready_sent = None; accepted = None }

-- how many peers voted c
abbrev pub votes : {C : Type 0} → Setting C → (ℕ → Option C) → C → ℕ
votes S v c = how_many (λ q. is_same S (v q) c) S.n

-- c has enough votes at the desk for a READY; and enough for the desk to accept it
abbrev pub heavy : {C : Type 0} → Setting C → Desk C → C → Bool
heavy S D c = nat_lt (S.n + S.t) (2 * votes S D.echoes c) || nat_lt S.t (votes S D.readies c)

abbrev pub final : {C : Type 0} → Setting C → Desk C → C → Bool
final S D c = nat_lt (2 * S.t) (votes S D.readies c)

-- A frame arrives from p. First its vote is recorded, if it is p's first of its kind.
abbrev pub recorded : {C : Type 0} → Desk C → ℕ → Kind → C → Desk C
recorded D p k c = record {
  echoes = λ q. settle (D.echoes q) (q == p && eqk k echo) c;
  readies = λ q. settle (D.readies q) (q == p && eqk k ready) c;
  echo_sent = D.echo_sent;
  ready_sent = D.ready_sent;
  accepted = D.accepted;
}

-- Then the desk sends and accepts what it may.
abbrev pub answered : {C : Type 0} → Setting C → Desk C → Kind → C → Desk C
answered S D k c = record {
  echoes = D.echoes;
  readies = D.readies;
  echo_sent = settle D.echo_sent (eqk k init || heavy S D c) c;
  ready_sent = settle D.ready_sent (heavy S D c) c;
  accepted = settle D.accepted (final S D c) c;
}

-- The whole. Where c would be accepted and something else was, nothing is done (the laws show that this never happens).
abbrev pub clash : {C : Type 0} → Setting C → Desk C → C → Bool
clash S D c = final S D c && is_other S D.accepted c

abbrev pub receive : {C : Type 0} → Setting C → Desk C → ℕ → Kind → C → Desk C
receive S D p k c = cond (clash S (recorded D p k c) c) D (answered S (recorded D p k c) k c)

-- What it sent since: its ECHO, its READY.
abbrev pub sends : {C : Type 0} → ℕ → Desk C → Desk C → List (Frame Kind C)
sends d D D' = fresh d echo D.echo_sent D'.echo_sent ++ fresh d ready D.ready_sent D'.ready_sent

abbrev pub double_echo : {C : Type 0} → Protocol (Desk C) Kind C
double_echo = record { blank = blank; first = init; receive = receive; sends = λ S d D D' c. sends d D D'; accepted = λ D. D.accepted }

abbrev pub State : Type 0 → Type 0
State C = Machine.State (Desk C) Kind C

abbrev pub DoubleEchoLawful : Type 0 → Type 0
DoubleEchoLawful C = Lawful (double_echo {C = C}) 3
