-- What the votes of a desk say, and that no two contents are backed.
use Rattle.std.proofs.Common.{◌≡◌, ℕ, ◌+◌, ◌*◌, ◌<◌, ◌≤◌, true, Some, Option, sym, ◌∙◌, ⊎_elim, arith}
use Rattle.std.proofs.lemmas.Bool.{ltb-true, or_cases}
use Rattle.quorum.specs.Frames.{Setting, Valid, Correct, is_same, among, faults}
use Rattle.quorum.specs.DoubleEcho.{Desk, State, votes, heavy, final}
use Rattle.quorum.specs.EchoInvariant.{Backed, TrueVotes, Sound}
use Rattle.quorum.proofs.Among.{among_bound, among_all, among_apart, among_some}
use Rattle.quorum.proofs.Basics.{some_inj, some_from_same, same_from_some, cases_same}

module _ {C : Type 0} (S : Setting C) (F : Valid S) where
  -- votes that are true are of desks that sent them, or of faulty ones
  pub votes_bound : (v sent : ℕ → Option C) (x : C) → ((q : ℕ) → Correct S q → v q ≡ Some x → sent q ≡ Some x) → votes S v x ≤ among S (λ q. is_same S (sent q) x) + faults S
  votes_bound v sent x h = among_bound S (λ q. is_same S (v q) x) (λ q. is_same S (sent q) x) (λ q g e. same_from_some S F _ x (h q g (some_from_same S F _ x e)))

  -- and the votes of all who sent are there, if they were heard
  pub votes_all : (v sent : ℕ → Option C) (x : C) → ((q : ℕ) → Correct S q → sent q ≡ Some x → v q ≡ Some x) → among S (λ q. is_same S (sent q) x) ≤ votes S v x
  votes_all v sent x h = among_all S (λ q. is_same S (v q) x) (λ q. is_same S (sent q) x) (λ q g e. same_from_some S F _ x (h q g (some_from_same S F _ x e)))

  -- two different contents have different holders
  pub holders_apart : (sent : ℕ → Option C) (x y : C) → (x ≡ y → ⊥) → among S (λ q. is_same S (sent q) x) + among S (λ q. is_same S (sent q) y) + faults S ≤ S.n
  holders_apart sent x y ne = among_apart S (λ q. is_same S (sent q) x) (λ q. is_same S (sent q) y) (λ q g a b. ne (some_inj x y (sym (some_from_same S F _ x a) ∙ some_from_same S F _ y b)))

  -- some desk holds what more than none hold
  pub holder : (sent : ℕ → Option C) (x : C) → 0 < among S (λ q. is_same S (sent q) x) → (q : ℕ) × Correct S q × (sent q ≡ Some x)
  holder sent x h = let r = among_some S (λ q. is_same S (sent q) x) h in (r.0, r.1, some_from_same S F _ x r.2)

  pub agreement : (s : State C) (x y : C) → Backed S s x → Backed S s y → x ≡ y
  agreement s x y a b = ⊎_elim (λ e. e) (λ ne. let z : ⊥ = omega (arith, F.few, holders_apart (λ q. (s.desk q).echo_sent) x y ne) in absurd z) (cases_same S F x y)

  -- what the votes of a desk show, if they are true
  module _ (s : State C) (sound : Sound S s) (V : Desk C) (v : TrueVotes S s V) where
    pub echo_backs : (x : C) → S.n + S.t < 2 * votes S V.echoes x → Backed S s x
    echo_backs x h = omega (arith, votes_bound V.echoes (λ q. (s.desk q).echo_sent) x (λ q. v.echoes q x))

    pub ready_backs : (x : C) → S.t < votes S V.readies x → Backed S s x
    ready_backs x h = let r = holder (λ q. (s.desk q).ready_sent) x (omega (arith, F.few, votes_bound V.readies (λ q. (s.desk q).ready_sent) x (λ q. v.readies q x))) in
        sound.backed r.0 x r.1 r.2

    pub heavy_backs : (x : C) → heavy S V x ≡ true → Backed S s x
    heavy_backs x e = ⊎_elim (λ a. echo_backs x (ltb-true _ _ a)) (λ a. ready_backs x (ltb-true _ _ a)) (or_cases _ _ e)

    pub final_backs : (x : C) → final S V x ≡ true → Backed S s x
    final_backs x e = ready_backs x (omega (arith, ltb-true _ _ e))

  pub accepted_backs : (s : State C) → Sound S s → (d : ℕ) (x : C) → Correct S d → (s.desk d).accepted ≡ Some x → Backed S s x
  accepted_backs s sound d x g e = ready_backs s sound (s.desk d) (sound.true_votes d g) x (omega (arith, (sound.settled d g).by_votes x e))

  -- a content that is backed was echoed by some desk
  pub backed_echoed : (s : State C) (x : C) → Backed S s x → 3 * S.t < S.n → (q : ℕ) × Correct S q × ((s.desk q).echo_sent ≡ Some x)
  backed_echoed s x b m = holder (λ q. (s.desk q).echo_sent) x (omega (arith, F.few))
