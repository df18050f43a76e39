-- The first refusal that applies: each call lists its tests and faults in order, and gives the first whose test holds. Assumes nothing.
use Rattle.std.specs.Prelude.{◌≡◌, Bool, cond, List, [], ◌∷◌, map, Some, None, Ok, Err, Option, Result}

-- tests, each with the fault that is given where it holds
abbrev pub Tests : Type 0 → Type 0
Tests F = List (Bool × F)

-- the first fault whose test holds
abbrev pub first : {F : Type 0} → Tests F → Option F
first [] = None
first (t ∷ ts) = cond t.0 (Some t.1) (first ts)

-- tests of a layer below, each fault kept whole in one of the layer above
abbrev pub tests_above : {F G : Type 0} → (F → G) → Tests F → Tests G
tests_above h ts = map (λ t. (t.0, h t.1)) ts

-- the answer, unless there is a fault
abbrev pub unless : {A F : Type 0} → Option F → A → Result A F
unless None a = Ok a
unless (Some f) a = Err f

-- a call that changes a value from s to s': refused with the fault and nothing changed, or done as P says
abbrev pub Unless : {S F : Type 0} → Option F → S → Result (Unit {0}) F → S → Type 0 → Type 0
Unless None s r s' P = (r ≡ Ok tt) × P
Unless (Some f) s r s' P = (r ≡ Err f) × (s' ≡ s)
