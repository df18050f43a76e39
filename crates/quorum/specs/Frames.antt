-- What the two broadcasts share: who is faulty, the frames of one identity on the wire, and options. Assumes nothing.
use Rattle.std.specs.Prelude.{◌≡◌, ℕ, ◌<◌, ◌≤◌, Bool, true, false, cond, not, ◌&&◌, ◌||◌, List, [], ◌∷◌, Some, None, Option, ◌==◌}
use Rattle.std.specs.List.{All}
use Rattle.std.specs.Option.{option_map_or}
use Rattle.desks.specs.Sets.{how_many}

-- The desks are 0 .. n - 1. `origin` is the desk of the identity, and `same` tells contents apart.
pub record Setting (C : Type 0) : Type 0 where
  pub n : ℕ
  pub t : ℕ
  pub faulty : ℕ → Bool
  pub origin : ℕ
  pub same : C → C → Bool

-- At most t desks are faulty, and `same` is equality.
pub record Valid {C : Type 0} (S : Setting C) : Type 0 where
  pub few : how_many S.faulty S.n ≤ S.t
  pub same_refl : (a : C) → S.same a a ≡ true
  pub same_true : (a b : C) → S.same a b ≡ true → a ≡ b

-- the desk is one of the n, and not faulty
pub record Correct {C : Type 0} (S : Setting C) (d : ℕ) : Type 0 where
  pub known : d < S.n
  pub honest : S.faulty d ≡ false

-- how many desks that are not faulty pass the test, and how many are faulty
abbrev pub among : {C : Type 0} → Setting C → (ℕ → Bool) → ℕ
among S h = how_many (λ q. not (S.faulty q) && h q) S.n

abbrev pub faults : {C : Type 0} → Setting C → ℕ
faults S = how_many S.faulty S.n

-- it is c; it is something other than c
abbrev pub is_same : {C : Type 0} → Setting C → Option C → C → Bool
is_same S o c = option_map_or (λ x. S.same x c) o false

abbrev pub is_other : {C : Type 0} → Setting C → Option C → C → Bool
is_other S o c = option_map_or (λ x. not (S.same x c)) o false

-- what was there stays; where nothing was, c comes if b
abbrev pub settle : {C : Type 0} → Option C → Bool → C → Option C
settle (Some x) b c = Some x
settle None true c = Some c
settle None false c = None

-- f with v at d
abbrev pub put : {A : Type 0} → (ℕ → A) → ℕ → A → ℕ → A
put f d v = λ q. cond (q == d) v (f q)

-- A frame on the wire, of a kind of K. `taken d` says that desk d took it.
pub record Frame (K C : Type 0) : Type 0 where
  pub sender : ℕ
  pub kind : K
  pub content : C
  pub taken : ℕ → Bool

-- a frame that none took
abbrev pub new : {K C : Type 0} → ℕ → K → C → Frame K C
new d k c = record { sender = d; kind = k; content = c; taken = λ q. false }

-- the frame once d took it
abbrev pub mark : {K C : Type 0} → ℕ → Frame K C → Frame K C
mark d f = record { sender = f.sender; kind = f.kind; content = f.content; taken = λ q. (q == d) || f.taken q }

-- what d sends as kind k, where its content of that kind was o and is now o'
abbrev pub fresh : {K C : Type 0} → ℕ → K → Option C → Option C → List (Frame K C)
fresh d k (Some x) o' = []
fresh d k None (Some c) = new d k c ∷ []
fresh d k None None = []

-- every frame was taken by every desk that is not faulty
abbrev pub AllTaken : {K C : Type 0} → Setting C → List (Frame K C) → Type 0
AllTaken S w = All (λ f. (d : ℕ) → Correct S d → f.taken d ≡ true) w
