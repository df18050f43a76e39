-- What an answer says of the tests before it.
use Rattle.std.proofs.Common.{◌≡◌, ℕ, zero, suc, Bool, true, false, cond, [], ◌∷◌, ◌++◌, Some, None, Ok, Err, Option, Result, refl, arith}
use Rattle.std.specs.Option.{option_map}
use Rattle.desks.specs.Firsts.{Tests, first, tests_above, unless, Unless}

-- an answer is given where no fault applies, and is the one promised
pub unless_ok : {A F : Type 0} (o : Option F) (a b : A) → ◌≡◌ {A = Result A F} (Ok a) (unless o b) → (o ≡ None) × (a ≡ b)
unless_ok None a b e = (refl, cc)
unless_ok {F = F} (Some f) a b e = let z : ◌≡◌ {A = ℕ} 0 1 = cc in absurd (omega (arith, z))

-- a single test that was passed
pub passed : {F : Type 0} (t : Bool) (f : F) → ◌≡◌ {A = Result (Unit {0}) F} (Ok tt) (unless (first ((t, f) ∷ [])) tt) → t ≡ false
passed false f e = refl
passed true f e = let z : ◌≡◌ {A = ℕ} 0 1 = cc in absurd (omega (arith, z))

-- a call that is not refused does what it says
pub done : {S F : Type 0} (o : Option F) (s s' : S) (P : Type 0) → o ≡ None → P → Unless o s (Ok tt) s' P
done o s s' P e p = rw e (refl, p)

-- the test at a place of a list
abbrev pub test_at : {F : Type 0} → Tests F → ℕ → Bool
test_at [] k = false
test_at (t ∷ ts) zero = t.0
test_at (t ∷ ts) (suc k) = test_at ts k

-- where no fault is given, no test holds
pub none_holds : {F : Type 0} (ts : Tests F) → first ts ≡ None → (k : ℕ) → test_at ts k ≡ false
none_holds [] e k = refl
none_holds (t ∷ ts) e k = by t.0 refl e k (λ q j. none_holds ts q j) where
  by : (b : Bool) → t.0 ≡ b → cond b (Some t.1) (first ts) ≡ None → (k : ℕ) → (first ts ≡ None → (j : ℕ) → test_at ts j ≡ false) → test_at (t ∷ ts) k ≡ false
  by true p e k rest = let z : ◌≡◌ {A = ℕ} 0 1 = cc in absurd (omega (arith, z))
  by false p e zero rest = p
  by false p e (suc k) rest = rest e k

-- a call that is refused says why, and changes nothing
pub refused : {S F : Type 0} (o : Option F) (s : S) (f : F) (P : Type 0) → o ≡ Some f → Unless o s (Err f) s P
refused o s f P e = rw e (refl, refl)

-- a refusal is that of the first test that holds
pub unless_err : {A F : Type 0} (o : Option F) (f : F) (b : A) → ◌≡◌ {A = Result A F} (Err f) (unless o b) → o ≡ Some f
unless_err None f b e = let z : ◌≡◌ {A = ℕ} 0 1 = cc in absurd (omega (arith, z))
unless_err (Some g) f b e = cc

-- tests behind one that holds do not matter, and those before ones that do not hold neither
pub first_front : {F : Type 0} (xs ys : Tests F) (f : F) → first xs ≡ Some f → first (xs ++ ys) ≡ Some f
first_front [] ys f e = let z : ◌≡◌ {A = ℕ} 0 1 = cc in absurd (omega (arith, z))
first_front (t ∷ ts) ys f e = by t.0 e (λ q. first_front ts ys f q) where
  by : (b : Bool) → cond b (Some t.1) (first ts) ≡ Some f → (first ts ≡ Some f → first (ts ++ ys) ≡ Some f) → cond b (Some t.1) (first (ts ++ ys)) ≡ Some f
  by true e rest = e
  by false e rest = rest e

pub first_back : {F : Type 0} (xs ys : Tests F) → first xs ≡ None → first (xs ++ ys) ≡ first ys
first_back [] ys e = refl
first_back (t ∷ ts) ys e = by t.0 e (λ q. first_back ts ys q) where
  by : (b : Bool) → cond b (Some t.1) (first ts) ≡ None → (first ts ≡ None → first (ts ++ ys) ≡ first ys) → cond b (Some t.1) (first (ts ++ ys)) ≡ first ys
  by true e rest = let z : ◌≡◌ {A = ℕ} 0 1 = cc in absurd (omega (arith, z))
  by false e rest = rest e

-- what a refused call says, and one that is done
pub refused_by : {S F : Type 0} (o : Option F) (s s' : S) (f : F) (P : Type 0) → Unless o s (Err f) s' P → (o ≡ Some f) × (s' ≡ s)
refused_by None s s' f P h = let e = h.0 in let z : ◌≡◌ {A = ℕ} 0 1 = cc in absurd (omega (arith, z))
refused_by (Some g) s s' f P h = let e = h.0 in (cc, h.1)

pub done_by : {S F : Type 0} (o : Option F) (s s' : S) (P : Type 0) → Unless o s (Ok tt) s' P → (o ≡ None) × P
done_by None s s' P h = (refl, h.1)
done_by (Some g) s s' P h = let e = h.0 in let z : ◌≡◌ {A = ℕ} 0 1 = cc in absurd (omega (arith, z))

-- the first of the tests as the layer above has them is the first, as it has that
pub first_tests_above : {F G : Type 0} (h : F → G) (ts : Tests F) → first (tests_above h ts) ≡ option_map h (first ts)
first_tests_above h [] = refl
first_tests_above h (t ∷ ts) = by t.0 (first_tests_above h ts) where
  by : (b : Bool) → first (tests_above h ts) ≡ option_map h (first ts) → cond b (Some (h t.1)) (first (tests_above h ts)) ≡ option_map h (cond b (Some t.1) (first ts))
  by true e = refl
  by false e = e
