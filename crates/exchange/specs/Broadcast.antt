-- A broadcast protocol as a carrier uses it. Assumes nothing.
use Rattle.std.specs.Prelude.{◌≡◌, ℕ, ◌≤◌, Bool, true, false, ◌⊎◌, [], length, Some, None}
use Rattle.std.specs.List.{All}
use Rattle.frame.specs.declared.kinds.Kind.{Kind}
use Rattle.frame.specs.declared.kinds.Kind.TheVariants.{Init}
use Rattle.frame.specs.Kinds.{known_to, has_kind}
use Rattle.quorum.specs.Frames.{Setting, Frame}
use Rattle.quorum.specs.Machine.{Protocol}
use Rattle.quorum.specs.Network.{LawfulEverywhere}
use Rattle.carrier.specs.Meaning.{Content}
use Rattle.carrier.specs.Declines.{most_sent}

abbrev pub is_init : Kind → Bool
is_init Init = true
is_init _ = false

-- a protocol over what a desk holds, D, and the kinds of its frames, K
pub record Broadcast (D K : Type 0) : Type 0 where
  pub factor : ℕ
  pub protocol : Protocol D K Content
  -- the desk would accept the content, and accepted another
  pub clash : Setting Content → D → ℕ → K → Content → Bool
  -- the kinds as frames have them; a kind that the protocol does not know is never taken from a frame
  pub code : K → Kind
  pub decode : Kind → K

-- a frame that desk d sends for the content c
pub record Sends {K : Type 0} (code : K → Kind) (factor d : ℕ) (c : Content) (f : Frame K Content) : Type 0 where
  pub sender : f.sender ≡ d
  pub content : f.content ≡ c
  pub untaken : (q : ℕ) → f.taken q ≡ false
  pub kind : is_init (code f.kind) ≡ false
  pub known : has_kind (known_to factor) (code f.kind) ≡ true

-- what a carrier asks of its protocol
pub record Regular {D K : Type 0} (B : Broadcast D K) : Type 0 where
  pub lawful : LawfulEverywhere B.protocol B.factor
  pub decoded : (k : K) → B.decode (B.code k) ≡ k
  pub first : B.code B.protocol.first ≡ Init
  pub knows_init : has_kind (known_to B.factor) Init ≡ true
  -- an INIT alone begins
  pub begins : (k : Kind) → has_kind (known_to B.factor) k ≡ true → B.decode k ≡ B.protocol.first → k ≡ Init
  -- nothing is accepted at first
  pub none : B.protocol.accepted B.protocol.blank ≡ None
  -- on a frame a desk sends at most so many, for the content received
  pub few : (S : Setting Content) (d : ℕ) (H : D) (p : ℕ) (k : K) (c : Content) → length (B.protocol.sends S d H (B.protocol.receive S H p k c) c) ≤ most_sent
  pub sends : (S : Setting Content) (d : ℕ) (H : D) (p : ℕ) (k : K) (c : Content) → All (Sends B.code B.factor d c) (B.protocol.sends S d H (B.protocol.receive S H p k c) c)
  -- and accepts nothing, or the content received where it had nothing
  pub accepts : (S : Setting Content) (H : D) (p : ℕ) (k : K) (c : Content) →
      (B.protocol.accepted (B.protocol.receive S H p k c) ≡ B.protocol.accepted H) ⊎ ((B.protocol.accepted H ≡ None) × (B.protocol.accepted (B.protocol.receive S H p k c) ≡ Some c))
  -- at a clash nothing is done
  pub clash_other : (S : Setting Content) (H : D) (p : ℕ) (k : K) (c : Content) → B.clash S H p k c ≡ true → (x : Content) × (B.protocol.accepted H ≡ Some x) × (S.same x c ≡ false)
  pub clash_keeps : (S : Setting Content) (H : D) (p : ℕ) (k : K) (c : Content) → B.clash S H p k c ≡ true → B.protocol.receive S H p k c ≡ H
  pub still : (S : Setting Content) (d : ℕ) (H : D) (c : Content) → B.protocol.sends S d H H c ≡ []
