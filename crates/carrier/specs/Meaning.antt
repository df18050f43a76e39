-- What a carrier means: its group, the frames on its wire, what each desk accepted and what each offered. Assumes nothing.
use Rattle.std.specs.Prelude.{◌≡◌, ℕ, ◌*◌, ◌<◌, ◌≤◌, Bool, false, List, Option}
use Rattle.desks.specs.declared.group.Group.{Group}
use Rattle.desks.specs.Sets.{has_desk, how_many}
use Rattle.wire.specs.Posted.{Posted}

-- a barrier byte for each desk, and an item
abbrev pub Content : Type 0
Content = List ℕ

pub record Meaning : Type 0 where
  pub group : Group
  -- how many frames the wire has places for
  pub places : ℕ
  -- the frames, the oldest first
  pub wire : List Posted
  -- what a desk accepted under an origin and a number
  pub accepted : ℕ → ℕ → ℕ → Option Content
  -- what a desk offered, in the order of its numbers
  pub offered : ℕ → List Content

-- whether a desk is faulty
abbrev pub faulty : Group → ℕ → Bool
faulty g d = has_desk g.faulty.bits d

-- a desk of the group that keeps to the rules
pub record Correct (g : Group) (d : ℕ) : Type 0 where
  pub known : d < g.desks
  pub honest : faulty g d ≡ false

-- a group that a carrier of that factor serves
pub record Valid (factor : ℕ) (g : Group) : Type 0 where
  pub desks_low : 2 ≤ g.desks
  pub desks_high : g.desks ≤ 16
  pub numbers_low : 1 ≤ g.numbers
  pub numbers_high : g.numbers ≤ 64
  pub faults_high : g.faults ≤ 5
  pub enough : factor * g.faults < g.desks
  -- no desk outside the group is faulty, and no more than the faults
  pub outside : (d : ℕ) → g.desks ≤ d → faulty g d ≡ false
  pub few : how_many (faulty g) g.desks ≤ g.faults
