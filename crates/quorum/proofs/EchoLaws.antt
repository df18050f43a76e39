-- The laws follow from Sound.
use Rattle.std.proofs.Common.{◌≡◌, ℕ, ◌+◌, ◌*◌, ◌<◌, ◌≤◌, Bool, true, false, eqb, Some, sym, refl, ap, ◌∙◌, subst, arith}
use Rattle.std.specs.List.{list_any}
use Rattle.std.specs.Option.{is_some}
use Rattle.std.proofs.lemmas.Bool.{eq-eqb, eqb-true, and_parts}
use Rattle.desks.specs.Sets.{one}
use Rattle.quorum.specs.Frames.{Setting, Valid, Correct, is_same, among, faults, Frame, AllTaken}
use Rattle.quorum.specs.DoubleEcho.{Kind, init, echo, ready, State, votes, double_echo}
use Rattle.quorum.specs.Machine.{Laws}
use Rattle.quorum.specs.EchoInvariant.{says, by, Heard, Told, Backed, Sound}
use Rattle.quorum.proofs.Counting.{cnt_le}
use Rattle.quorum.proofs.Among.{among_whole}
use Rattle.quorum.proofs.EchoKinds.{eqk_true}
use Rattle.quorum.proofs.Basics.{all_both, same_from_some, some_inj, some_yes, some_value, pick}
use Rattle.quorum.proofs.EchoOne.{votes_bound, votes_all, agreement, echo_backs, accepted_backs, backed_echoed}

module _ {C : Type 0} (S : Setting C) (F : Valid S) (enough : 3 * S.t < S.n) (s : State C) (sound : Sound S s) where
  one_le_one : (b : Bool) → one b ≤ 1
  one_le_one true = omega arith
  one_le_one false = omega arith

  backed_true : (x : C) → Correct S S.origin → Backed S s x → s.offered ≡ Some x
  backed_true x o b = let r = backed_echoed S F s x b enough in sound.from_origin r.0 x r.1 o r.2

  -- what a desk that is not faulty has sent can be read off the wire
  pub on_is_sent : (p : ℕ) (k : Kind) → Correct S p → list_any (by p k) s.wire ≡ is_some (says S s p k)
  on_is_sent p k g = one_test _ _ (λ h. pick (by p k) (Told S s) (is_some (says S s p k) ≡ true) s.wire sound.frames h (λ f a y. there f a y)) (λ h. sound.posted p k g h)
    where
      there : (f : Frame Kind C) → Told S s f → by p k f ≡ true → is_some (says S s p k) ≡ true
      there f a y =
          let u : f.sender ≡ p = eqb-true _ _ (and_parts _ _ y).0 in
          let l : f.kind ≡ k = eqk_true _ _ (and_parts (eqb f.sender p) _ y).1 in
          let h : says S s f.sender f.kind ≡ Some f.content = a.said in
          let h2 : says S s p k ≡ Some f.content = rw (u, l) at h in
          some_yes _ f.content h2

      one_test : (a b : Bool) → (a ≡ true → b ≡ true) → (b ≡ true → a ≡ true) → a ≡ b
      one_test true true u v = refl
      one_test true false u v = sym (u refl)
      one_test false true u v = v refl
      one_test false false u v = refl

  module _ (taken : AllTaken S s.wire) where
    -- what a desk sent, all heard
    heard_by_all : (e q : ℕ) (k : Kind) (x : C) → Correct S e → Correct S q → says S s q k ≡ Some x → Heard s e q k x
    heard_by_all e q k x ge gq h =
        pick (by q k) (λ f. Told S s f × ((d : ℕ) → Correct S d → f.taken d ≡ true)) (Heard s e q k x) s.wire (all_both (Told S s) (λ f. (d : ℕ) → Correct S d → f.taken d ≡ true) s.wire sound.frames taken) (sound.posted q k gq (some_yes _ x h))
        (λ f a y.
        let p : f.sender ≡ q = eqb-true _ _ (and_parts _ _ y).0 in
        let l : f.kind ≡ k = eqk_true _ _ (and_parts (eqb f.sender q) _ y).1 in
        let g : Heard s e f.sender f.kind f.content = a.0.heard e ge (a.1 e ge) in
        let h1 : says S s f.sender f.kind ≡ Some f.content = a.0.said in
        let g2 : Heard s e q k f.content = rw (p, l) at g in
        let h2 : says S s q k ≡ Some f.content = rw (p, l) at h1 in
        let c : f.content ≡ x = some_inj _ _ (sym h2 ∙ h) in
        subst (Heard s e q k) c g2)

    -- where all sent READY x, all accepted x
    all_accept : (x : C) → Backed S s x → ((q : ℕ) → Correct S q → (s.desk q).ready_sent ≡ Some x) → (e : ℕ) → Correct S e → (s.desk e).accepted ≡ Some x
    all_accept x b h e ge =
        let many : S.n ≤ among S (λ q. is_same S (s.desk q).ready_sent x) + faults S = among_whole S (λ q. is_same S (s.desk q).ready_sent x) (λ q g. same_from_some S F _ x (h q g)) in
        let heard : among S (λ q. is_same S (s.desk q).ready_sent x) ≤ votes S (s.desk e).readies x = votes_all S F (s.desk e).readies (λ q. (s.desk q).ready_sent) x (λ q g r. heard_by_all e q ready x ge g r) in
        let v = some_value _ ((sound.settled e ge).done x (omega (arith, F.few))) in
        v.1 ∙ ap Some (agreement S F s v.0 x (accepted_backs S F s sound e v.0 ge v.1) b)

    -- a READY that is backed is what every desk sent that sent one
    the_ready : (x : C) → Backed S s x → (q : ℕ) → Correct S q → is_some (s.desk q).ready_sent ≡ true → (s.desk q).ready_sent ≡ Some x
    the_ready x b q g y = let v = some_value _ y in v.1 ∙ ap Some (agreement S F s v.0 x (sound.backed q v.0 g v.1) b)

    all_together : (d e : ℕ) (a : C) → Correct S d → Correct S e → (s.desk d).accepted ≡ Some a → (s.desk e).accepted ≡ Some a
    all_together d e a gd ge h = all_accept a b all_ready e ge
      where
        b : Backed S s a
        b = accepted_backs S F s sound d a gd h

        many : S.t < among S (λ q. is_same S (s.desk q).ready_sent a)
        many = omega (arith, F.few, (sound.settled d gd).by_votes a h, votes_bound S F (s.desk d).readies (λ q. (s.desk q).ready_sent) a (λ q. (sound.true_votes d gd).readies q a))

        all_ready : (q : ℕ) → Correct S q → (s.desk q).ready_sent ≡ Some a
        all_ready q g =
            let heard : among S (λ p. is_same S (s.desk p).ready_sent a) ≤ votes S (s.desk q).readies a = votes_all S F (s.desk q).readies (λ p. (s.desk p).ready_sent) a (λ p gp r. heard_by_all q p ready a g gp r) in
            the_ready a b q g ((sound.settled q g).joined a (omega (arith, many)))

    all_delivered : (d : ℕ) (a : C) → Correct S S.origin → Correct S d → s.offered ≡ Some a → (s.desk d).accepted ≡ Some a
    all_delivered d a go gd h = all_accept a b all_ready d gd
      where
        offered_says : says S s S.origin init ≡ Some a
        offered_says = rw (eq-eqb S.origin S.origin refl) h

        all_echo : (q : ℕ) → Correct S q → (s.desk q).echo_sent ≡ Some a
        all_echo q g = let v = some_value _ (heard_by_all q S.origin init a g go offered_says) in
            v.1 ∙ sym (sound.from_origin q v.0 g go v.1) ∙ h

        many : (q : ℕ) → Correct S q → S.n + S.t < 2 * votes S (s.desk q).echoes a
        many q g = omega (arith, F.few, among_whole S (λ p. is_same S (s.desk p).echo_sent a) (λ p g. same_from_some S F _ a (all_echo p g)), votes_all S F (s.desk q).echoes (λ p. (s.desk p).echo_sent) a (λ p gp r. heard_by_all q p echo a g gp r))

        b : Backed S s a
        b = echo_backs S F s sound (s.desk d) (sound.true_votes d gd) a (many d gd)

        all_ready : (q : ℕ) → Correct S q → (s.desk q).ready_sent ≡ Some a
        all_ready q g = the_ready a b q g ((sound.settled q g).echoed a (many q g))

  pub laws : Laws double_echo S s
  laws = record {
    agree = λ d e a b gd ge ha hb. agreement S F s a b (accepted_backs S F s sound d a gd ha) (accepted_backs S F s sound e b ge hb);
    true_to_origin = λ d a gd go h. backed_true a go (accepted_backs S F s sound d a gd h);
    together = all_together;
    delivered = all_delivered;
    short = omega (arith, sound.sized, cnt_le (λ q. is_some (s.desk q).echo_sent) S.n, cnt_le (λ q. is_some (s.desk q).ready_sent) S.n, one_le_one (is_some s.offered));
  }
