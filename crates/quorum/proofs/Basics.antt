-- Options, kinds, correct desks, and the wire. Assumes nothing.
use Rattle.std.proofs.Common.{◌≡◌, ℕ, zero, suc, ◌+◌, ◌<◌, ◌≤◌, Bool, true, false, ◌⊎◌, List, [], ◌∷◌, ◌++◌, length, get_or, set, Some, None, Option, sym, refl, ap, inl, inr, ⊎_elim, arith}
use Rattle.std.specs.Option.{is_some}
use Rattle.std.specs.List.{All, list_any}
use Rattle.std.proofs.lemmas.List.Elements.{All-head, All-nil, All-push, All-tail}
use Rattle.std.proofs.lemmas.List.Folds.{list_any-append}
use Rattle.std.proofs.lemmas.Bool.{or_cases, or_left, or_right, both_ways, cases_Bool}
use Rattle.desks.specs.Sets.{one}
use Rattle.quorum.specs.Frames.{Setting, Valid, is_same, settle, Frame, new, fresh}
use Rattle.quorum.proofs.Counting.{one_true}

pub clash_of : {A : Type 0} (b : Bool) → b ≡ true → b ≡ false → A
clash_of b t f = absurd (both_ways b f t)

module _ {C : Type 0} where
  pub some_inj : (a b : C) → ◌≡◌ {A = Option C} (Some a) (Some b) → a ≡ b
  some_inj a b e = cc

  pub some_yes : (o : Option C) (a : C) → o ≡ Some a → is_some o ≡ true
  some_yes o a e = ap is_some e

  pub some_not_none : {A : Type 0} (a : C) → ◌≡◌ {A = Option C} None (Some a) → A
  some_not_none a e = let z : ◌≡◌ {A = ℕ} 0 1 = cc in let w : ⊥ = omega arith in absurd w

  pub some_value : (o : Option C) → is_some o ≡ true → (a : C) × (o ≡ Some a)
  some_value (Some a) e = (a, refl)
  some_value None e = clash_of false e refl

  pub settle_kept : (o : Option C) (b : Bool) (c x : C) → o ≡ Some x → settle o b c ≡ Some x
  settle_kept (Some y) b c x e = e
  settle_kept None b c x e = some_not_none x e

  pub settle_some : (o : Option C) (b : Bool) (c : C) → is_some o ≡ true → is_some (settle o b c) ≡ true
  settle_some (Some y) b c e = refl
  settle_some None b c e = clash_of false e refl

  pub settle_fires : (o : Option C) (b : Bool) (c : C) → b ≡ true → is_some (settle o b c) ≡ true
  settle_fires (Some y) b c e = refl
  settle_fires None true c e = refl
  settle_fires None false c e = e

  pub settle_new : (o : Option C) (b : Bool) (c x : C) → settle o b c ≡ Some x → (o ≡ Some x) ⊎ ((o ≡ None) × (b ≡ true) × (x ≡ c))
  settle_new (Some y) b c x e = inl e
  settle_new None true c x e = inr (refl, refl, sym (some_inj c x e))
  settle_new None false c x e = inl e

  pub settle_one : (o : Option C) (b : Bool) (c : C) → b ≡ true → ((x : C) → o ≡ Some x → x ≡ c) → settle o b c ≡ Some c
  settle_one (Some y) b c e h = ap Some (h y refl)
  settle_one None true c e h = refl
  settle_one None false c e h = clash_of false e refl

  pub settle_cases : (o : Option C) (b : Bool) (c x : C) → settle o b c ≡ Some x → (o ≡ Some x) ⊎ ((b ≡ true) × (x ≡ c))
  settle_cases o b c x e = ⊎_elim (λ a. inl a) (λ a. inr (a.1, a.2)) (settle_new o b c x e)

module _ {C : Type 0} (S : Setting C) (F : Valid S) where
  pub some_from_same : (o : Option C) (c : C) → is_same S o c ≡ true → o ≡ Some c
  some_from_same (Some x) c e = ap Some (F.same_true x c e)
  some_from_same None c e = clash_of false e refl

  pub same_from_some : (o : Option C) (c : C) → o ≡ Some c → is_same S o c ≡ true
  same_from_some o c e = rw e (F.same_refl c)

  -- what was there is there; what is there was there, or is c
  pub is_kept : (o : Option C) (b : Bool) (c x : C) → is_same S o x ≡ true → is_same S (settle o b c) x ≡ true
  is_kept o b c x e = same_from_some _ x (settle_kept o b c x (some_from_same o x e))

  pub is_cases : (o : Option C) (b : Bool) (c x : C) → is_same S (settle o b c) x ≡ true → (is_same S o x ≡ true) ⊎ ((b ≡ true) × (x ≡ c))
  is_cases o b c x e = ⊎_elim (λ a. inl (same_from_some o x a)) (λ a. inr a) (settle_cases o b c x (some_from_same _ x e))

  pub cases_same : (x y : C) → (x ≡ y) ⊎ (x ≡ y → ⊥)
  cases_same x y = ⊎_elim (λ e. inl (F.same_true x y e)) (λ n. inr (λ e. both_ways _ n (rw e (F.same_refl y)))) (cases_Bool (S.same x y))

-- The wire.
module _ {K C : Type 0} where
  module _ (T : Frame K C → Bool) where
    pub on_append : (u v : List (Frame K C)) → (list_any T u ≡ true) ⊎ (list_any T v ≡ true) → list_any T (u ++ v) ≡ true
    on_append u v h = rw (list_any-append T u v) (⊎_elim (λ a. or_left _ _ a) (λ a. or_right _ _ a) h)

    pub on_set : (w : List (Frame K C)) (i : ℕ) (f g : Frame K C) → i < length w → f ≡ get_or w i f → T g ≡ T f → list_any T w ≡ true → list_any T (set w i g) ≡ true
    on_set [] i f g l e m o = o
    on_set (h ∷ w) zero f g l e m o = rw m (rw e o)
    on_set (h ∷ w) (suc i) f g l e m o = ⊎_elim (λ a. or_left _ _ a) (λ a. or_right _ _ (on_set w i f g (omega arith) e m a)) (or_cases _ _ o)

    -- what stands on the wire, taken out of it
    pub pick : (P : Frame K C → Type 0) (Q : Type 0) (w : List (Frame K C)) → All P w → list_any T w ≡ true → ((f : Frame K C) → P f → T f ≡ true → Q) → Q
    pick P Q [] a o h = clash_of false o refl
    pick P Q (f ∷ w) a o h = ⊎_elim (λ e. h f (All-head P f w a) e) (λ e. pick P Q w (All-tail P f w a) e h) (or_cases _ _ o)

  pub fresh_on : (T : Frame K C → Bool) (d : ℕ) (k : K) (o o' : Option C) → ((x : C) → T (new d k x) ≡ true) → is_some o' ≡ true → (is_some o ≡ true) ⊎ (list_any T (fresh d k o o') ≡ true)
  fresh_on T d k (Some x) o' h e = inl refl
  fresh_on T d k None (Some c) h e = inr (or_left _ _ (h c))
  fresh_on T d k None None h e = inl e

  pub fresh_length : (d : ℕ) (k : K) (o o' : Option C) → (is_some o ≡ true → is_some o' ≡ true) → length (fresh d k o o') + one (is_some o) ≤ one (is_some o')
  fresh_length d k (Some x) o' h = omega (arith, one_true _ (h refl))
  fresh_length d k None (Some c) h = omega arith
  fresh_length d k None None h = omega arith

  pub fresh_all : (P : Frame K C → Type 0) (d : ℕ) (k : K) (o o' : Option C) → ((x : C) → o' ≡ Some x → P (new d k x)) → All P (fresh d k o o')
  fresh_all P d k (Some x) o' h = All-nil P
  fresh_all P d k None (Some c) h = All-push P [] (new d k c) (All-nil P) (h c refl)
  fresh_all P d k None None h = All-nil P

  pub all_both : (P Q : Frame K C → Type 0) (w : List (Frame K C)) → All P w → All Q w → All (λ f. P f × Q f) w
  all_both P Q w a b i f l = (a i f l, b i f l)
