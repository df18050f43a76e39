-- What every carrier shows of each of its states. Assumes nothing.
use Rattle.std.specs.Prelude.{◌≡◌, ℕ, ◌+◌, ◌-◌, ◌*◌, ◌<◌, ◌≤◌, true, [], length, Some, slice_index_or}
use Rattle.std.specs.List.{All}
use Rattle.desks.specs.declared.group.Group.{Group}
use Rattle.desks.specs.Sizes.{item_size}
use Rattle.wire.specs.Posted.{Posted}
use Rattle.carrier.specs.Meaning.{Content, Meaning, Correct}

-- no two correct desks accept different contents under one identity
abbrev pub AcceptAlike : Meaning → Type 0
AcceptAlike m =
    (d e o k : ℕ) (x y : Content) → Correct m.group d → Correct m.group e → m.accepted d o k ≡ Some x → m.accepted e o k ≡ Some y → x ≡ y

-- what a correct desk offered under its number k
pub record OfferedAs (m : Meaning) (o k : ℕ) (x : Content) : Type 0 where
  pub low : 1 ≤ k
  pub high : k ≤ length (m.offered o)
  pub is : x ≡ slice_index_or (m.offered o) (k - 1) []

-- what is accepted under a correct origin is what it offered under that number
abbrev pub AcceptOffered : Meaning → Type 0
AcceptOffered m =
    (d o k : ℕ) (x : Content) → Correct m.group d → Correct m.group o → m.accepted d o k ≡ Some x → OfferedAs m o k x

-- a frame was taken by every correct desk
abbrev pub Taken : Meaning → Posted → Type 0
Taken m f = (d : ℕ) → Correct m.group d → f.taken d ≡ true

-- so was every frame of one identity; so was every frame
abbrev pub TakenUnder : Meaning → ℕ → ℕ → Type 0
TakenUnder m o k = All (λ f. f.origin ≡ o → f.number ≡ k → Taken m f) m.wire

abbrev pub AllTaken : Meaning → Type 0
AllTaken m = All (Taken m) m.wire

-- of one identity: what one correct desk accepted all have, and what a correct origin offered all have
pub record TogetherUnder (m : Meaning) (o k : ℕ) : Type 0 where
  pub alike : (d e : ℕ) (x : Content) → Correct m.group d → Correct m.group e → m.accepted d o k ≡ Some x → m.accepted e o k ≡ Some x
  pub offered : (d : ℕ) (x : Content) → Correct m.group d → Correct m.group o → OfferedAs m o k x → m.accepted d o k ≡ Some x

-- of all identities
pub record Together (m : Meaning) : Type 0 where
  pub alike : (d e o k : ℕ) (x : Content) → Correct m.group d → Correct m.group e → m.accepted d o k ≡ Some x → m.accepted e o k ≡ Some x
  pub offered : (d o k : ℕ) → Correct m.group d → Correct m.group o → k < length (m.offered o) → m.accepted d o (k + 1) ≡ Some (slice_index_or (m.offered o) k [])

-- a content of the group has so many bytes
abbrev pub Sized : Group → Content → Type 0
Sized g c = length c ≡ g.desks + item_size

-- a desk, an identity and a content of the group
pub record Within (g : Group) (d o k : ℕ) (x : Content) : Type 0 where
  pub desk : d < g.desks
  pub origin : o < g.desks
  pub low : 1 ≤ k
  pub high : k ≤ g.numbers
  pub size : Sized g x

-- contents have their size, and identities are in range
pub record Shaped (m : Meaning) : Type 0 where
  pub accepted : (d o k : ℕ) (x : Content) → m.accepted d o k ≡ Some x → Within m.group d o k x
  pub wire : All (λ f. Within m.group f.sender f.origin f.number f.content) m.wire
  pub offered : (d : ℕ) → All (Sized m.group) (m.offered d)
  pub few : (d : ℕ) → length (m.offered d) ≤ m.group.numbers

pub record Laws (m : Meaning) : Type 0 where
  pub accept_alike : AcceptAlike m
  pub accept_offered : AcceptOffered m
  -- once every frame of an identity is taken, that identity is settled; once every frame is, all are
  pub taken_under : (o k : ℕ) → TakenUnder m o k → TogetherUnder m o k
  pub taken_together : AllTaken m → Together m
  pub bounded : length m.wire ≤ m.group.desks * m.group.numbers * (2 * m.group.desks + 1)
  pub shaped : Shaped m
  pub fits : length m.wire ≤ m.places
