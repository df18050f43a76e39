-- A broadcast as a function of moves, and a sample run of the double echo. Assumes nothing.
use Rattle.std.specs.Prelude.{◌≡◌, ℕ, Bool, true, false, cond, not, ◌&&◌, ◌||◌, List, [], ◌∷◌, ◌++◌, length, Some, None, Option, ◌==◌, nat_eq, nat_lt, slice_set, is_some, slice_get}
use Rattle.quorum.specs.Frames.{Setting, Frame, mark}
use Rattle.quorum.specs.Machine.{Protocol, State, start, offering, received, Reached}
use Rattle.quorum.specs.DoubleEcho.{Kind, init, echo, ready, Desk, double_echo}

pub data Move (K C : Type 0) : Type 0 where
  offers : C → Move K C
  takes : ℕ → ℕ → Move K C
  feigns : ℕ → ℕ → K → C → Move K C

abbrev pub good : {C : Type 0} → Setting C → ℕ → Bool
good S d = nat_lt d S.n && not (S.faulty d)

abbrev pub took : {D K C : Type 0} → Protocol D K C → Setting C → State D K C → ℕ → ℕ → Option (Frame K C) → State D K C
took P S s d i (Some f) = received P S s (slice_set s.wire i (mark d f)) d f.sender f.kind f.content
took P S s d i None = s

-- The state after a move; a move that may not be made changes nothing. `firstly` tells the first kind.
abbrev pub moved : {D K C : Type 0} → Protocol D K C → (K → Bool) → Setting C → State D K C → Move K C → State D K C
moved P firstly S s (offers c) = cond (good S S.origin && not (is_some s.offered)) (offering P S s c) s
moved P firstly S s (takes d i) = cond (good S d) (took P S s d i (slice_get s.wire i)) s
moved P firstly S s (feigns d p k c) = cond (good S d && ((nat_lt p S.n && S.faulty p) && (not (firstly k) || p == S.origin))) (received P S s s.wire d p k c) s

abbrev pub run : {D K C : Type 0} → Protocol D K C → (K → Bool) → Setting C → State D K C → List (Move K C) → State D K C
run P firstly S s [] = s
run P firstly S s (m ∷ ms) = run P firstly S (moved P firstly S s m) ms

-- Every run comes to a state that is reached.
abbrev pub RunsReach : Type 0 → Type 0 → Type 0 → Type 0
RunsReach D K C = (P : Protocol D K C) (firstly : K → Bool) → firstly P.first ≡ true → (S : Setting C) (ms : List (Move K C)) → Reached P S (run P firstly S (start P) ms)

-- Four desks, of which the last is faulty, and an offer of the first.
abbrev pub four : Setting ℕ
four = record { n = 4; t = 1; faulty = λ d. (d == 3); origin = 0; same = nat_eq }

abbrev pub each_takes : {K : Type 0} → ℕ → List (Move K ℕ)
each_takes i = takes 0 i ∷ takes 1 i ∷ takes 2 i ∷ []

abbrev pub firstly : Kind → Bool
firstly init = true
firstly _ = false

abbrev pub sample : List (Move Kind ℕ)
sample = offers 7 ∷ feigns 1 3 echo 9 ∷ feigns 2 3 ready 9 ∷ each_takes 0 ++ (each_takes 1 ++ (each_takes 2 ++ (each_takes 3 ++ (each_takes 4 ++ (each_takes 5 ++ each_takes 6)))))

abbrev pub sampled : State (Desk ℕ) Kind ℕ
sampled = run double_echo firstly four (start double_echo) sample

pub record Sample : Type 0 where
  pub at_0 : (sampled.desk 0).accepted ≡ Some 7
  pub at_1 : (sampled.desk 1).accepted ≡ Some 7
  pub at_2 : (sampled.desk 2).accepted ≡ Some 7
  pub frames : length sampled.wire ≡ 7
