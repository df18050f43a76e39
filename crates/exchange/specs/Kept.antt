-- What holds of every state that a carrier comes to by its exact steps. Assumes nothing.
use Rattle.std.specs.Prelude.{◌≡◌, ℕ, ◌≤◌, true, length, Some}
use Rattle.std.specs.List.{All}
use Rattle.desks.specs.declared.group.Group.{Group}
use Rattle.frame.specs.Kinds.{known_to, has_kind}
use Rattle.wire.specs.Posted.{Posted}
use Rattle.quorum.specs.Network.{Attained}
use Rattle.carrier.specs.Meaning.{Content, Valid}
use Rattle.carrier.specs.Laws.{Within}
use Rattle.exchange.specs.Broadcast.{Broadcast}
use Rattle.exchange.specs.Exact.{Exact, common, network, offers_of}

-- a frame of the group, of a kind that the protocol knows
pub record Framed (factor : ℕ) (g : Group) (f : Posted) : Type 0 where
  pub within : Within g f.sender f.origin f.number f.content
  pub known : has_kind (known_to factor) f.kind ≡ true

module _ {D K : Type 0} (B : Broadcast D K) where
  pub record Kept (x : Exact D) : Type 0 where
    pub valid : Valid B.factor x.group
    -- the network is one that the protocol comes to
    pub attained : Attained B.protocol (common x.group) (network B x)
    pub framed : All (Framed B.factor x.group) x.wire
    pub accepted : (d o k : ℕ) (c : Content) → B.protocol.accepted (x.desk o k d) ≡ Some c → Within x.group d o k c
    pub few : (d : ℕ) → length (offers_of x.wire d) ≤ x.group.numbers
    pub fits : length x.wire ≤ x.places
