-- Every step keeps Sound.
use Rattle.std.proofs.Common.{◌≡◌, ℕ, ◌+◌, ◌*◌, ◌<◌, ◌≤◌, Bool, true, false, cond, not, ◌&&◌, eqb, List, [], ◌∷◌, ◌++◌, length, set, Some, None, Option, sym, refl, ap, ◌∙◌, subst, inl, inr, ⊎_elim, arith, length-append, length-set}
use Rattle.std.specs.Option.{is_some}
use Rattle.std.specs.List.{All, list_any}
use Rattle.std.proofs.lemmas.Bool.{ltb-true, lt-ltb, eqb-true, eq-eqb, ne_eqb, or_cases, or_left, or_right, and_parts, and_from, cases_Bool, cases_eq, cond-true, cond-false}
use Rattle.std.proofs.lemmas.List.Elements.{All-append, All-get_or, All-nil, All-push, All-set, All-weaker}
use Rattle.desks.specs.Sets.{one, how_many}
use Rattle.quorum.specs.Frames.{Setting, Valid, Correct, is_same, is_other, settle, Frame, new, mark, fresh}
use Rattle.quorum.specs.DoubleEcho.{Kind, init, echo, ready, eqk, Desk, State, votes, heavy, final, recorded, answered, clash, receive, sends, double_echo}
use Rattle.quorum.specs.Machine.{start, offering, received, Step, offer, take, feign, Reached, at_start, then_step}
use Rattle.quorum.specs.EchoInvariant.{says, by, Heard, Told, Backed, TrueVotes, Settled, Sound}
use Rattle.quorum.proofs.Counting.{cnt_mono, cnt_point, cnt_never}
use Rattle.quorum.proofs.Basics.{settle_one, clash_of, some_inj, some_yes, some_not_none, some_value, settle_kept, settle_some, settle_fires, settle_cases, some_from_same, same_from_some, cases_same, on_append, on_set, fresh_on, fresh_length, fresh_all}
use Rattle.quorum.proofs.Among.{among_mono}
use Rattle.quorum.proofs.EchoKinds.{eqk_true, eqk_refl}
use Rattle.quorum.proofs.EchoOne.{agreement, heavy_backs, final_backs, accepted_backs, backed_echoed}

-- what a faulty desk says is free; what another says, it sent
pub record Genuine {C : Type 0} (S : Setting C) (s : State C) (p : ℕ) (k : Kind) (c : C) : Type 0 where
  pub by_origin : k ≡ init → p ≡ S.origin
  pub said : Correct S p → says S s p k ≡ Some c

-- a desk that lost nothing
record Grown {C : Type 0} (D D' : Desk C) : Type 0 where
  pub echoes : (q : ℕ) (x : C) → D.echoes q ≡ Some x → D'.echoes q ≡ Some x
  pub readies : (q : ℕ) (x : C) → D.readies q ≡ Some x → D'.readies q ≡ Some x
  pub echo_sent : (x : C) → D.echo_sent ≡ Some x → D'.echo_sent ≡ Some x
  pub ready_sent : (x : C) → D.ready_sent ≡ Some x → D'.ready_sent ≡ Some x

module _ {C : Type 0} (S : Setting C) (F : Valid S) where
  -- Votes and one vote more.
  module _ (v : ℕ → Option C) (b : ℕ → Bool) (c : C) where
    votes_more : (x : C) → votes S v x ≤ votes S (λ q. settle (v q) (b q) c) x
    votes_more x = cnt_mono (λ q. is_same S (v q) x) (λ q. is_same S (settle (v q) (b q) c) x) S.n (λ q l e. same_from_some S F _ x (settle_kept (v q) (b q) c x (some_from_same S F (v q) x e)))

    votes_other : (x : C) → (x ≡ c → ⊥) → votes S (λ q. settle (v q) (b q) c) x ≤ votes S v x
    votes_other x ne = cnt_mono (λ q. is_same S (settle (v q) (b q) c) x) (λ q. is_same S (v q) x) S.n (λ q l e. ⊎_elim (λ a. same_from_some S F (v q) x a) (λ a. absurd (ne a.1)) (settle_cases (v q) (b q) c x (some_from_same S F _ x e)))

  -- A desk that was settled is settled once it answered.
  module _ (D : Desk C) (p : ℕ) (k : Kind) (c : C) (was : Settled S D) where
    abbrev D1 : Desk C
    D1 = recorded D p k c

    abbrev D2 : Desk C
    D2 = answered S D1 k c

    -- what the votes of x ask for is done: now, if x is c, and before else
    asked : (o : Option C) (b : Bool) (x : C) → (x ≡ c → b ≡ true) → ((x ≡ c → ⊥) → is_some o ≡ true) → is_some (settle o b c) ≡ true
    asked o b x now before = ⊎_elim (λ e. settle_fires o b c (now e)) (λ ne. settle_some o b c (before ne)) (cases_same S F x c)

    now_settled : Settled S D2
    now_settled = record {
      by_votes = λ x e. ⊎_elim
          (λ a. omega (arith, was.by_votes x a, votes_more D.readies (λ q. eqb q p && eqk k ready) c x))
          (λ a. rw a.1 (ltb-true _ _ a.0))
          (settle_cases D.accepted (final S D1 c) c x e);
      echoed = λ x h. asked D.ready_sent (heavy S D1 c) x
          (λ e. or_left _ _ (lt-ltb _ _ (rw e at h)))
          (λ ne. was.echoed x (omega (arith, h, votes_other D.echoes (λ q. eqb q p && eqk k echo) c x ne)));
      joined = λ x h. asked D.ready_sent (heavy S D1 c) x
          (λ e. or_right _ _ (lt-ltb _ _ (rw e at h)))
          (λ ne. was.joined x (omega (arith, h, votes_other D.readies (λ q. eqb q p && eqk k ready) c x ne)));
      done = λ x h. asked D.accepted (final S D1 c) x
          (λ e. lt-ltb _ _ (rw e at h))
          (λ ne. was.done x (omega (arith, h, votes_other D.readies (λ q. eqb q p && eqk k ready) c x ne)));
    }

    now_grown : Grown D D2
    now_grown = record {
      echoes = λ q x e. settle_kept (D.echoes q) _ c x e;
      readies = λ q x e. settle_kept (D.readies q) _ c x e;
      echo_sent = λ x e. settle_kept D.echo_sent _ c x e;
      ready_sent = λ x e. settle_kept D.ready_sent _ c x e;
    }

  -- The votes with the new one are true, and so nothing clashes.
  module _ (s : State C) (sound : Sound S s) (d : ℕ) (gd : Correct S d) (p : ℕ) (k : Kind) (c : C) (genuine : Genuine S s p k c) where
    -- The votes v of one kind l that d recorded, each of which its peer sent, and the new one.
    module _ (l : Kind) (v : ℕ → Option C) (sent : (q : ℕ) (x : C) → Correct S q → v q ≡ Some x → says S s q l ≡ Some x) where
      vote_sent : (q : ℕ) (x : C) → Correct S q → settle (v q) (eqb q p && eqk k l) c ≡ Some x → says S s q l ≡ Some x
      vote_sent q x g h = ⊎_elim
          (λ a. sent q x g a)
          (λ a. let b = and_parts _ _ a.0 in
          let qp : q ≡ p = eqb-true _ _ b.0 in
          let kl : k ≡ l = eqk_true _ _ b.1 in
          let said : says S s p k ≡ Some c = genuine.said (subst (Correct S) qp g) in
          rw (qp, ← kl, a.1) said)
          (settle_cases (v q) (eqb q p && eqk k l) c x h)

      vote_there : Correct S p → k ≡ l → settle (v p) (eqb p p && eqk k l) c ≡ Some c
      vote_there g e =
          let said : says S s p l ≡ Some c = rw e at (genuine.said g) in
          settle_one (v p) _ c (and_from _ _ (eq-eqb p p refl) (rw e (eqk_refl l))) (λ x h. some_inj x c (sym (sent p x g h) ∙ said))

    now_true : TrueVotes S s (recorded (s.desk d) p k c)
    now_true =
        let was = sound.true_votes d gd in
        record { echoes = vote_sent echo (s.desk d).echoes was.echoes; readies = vote_sent ready (s.desk d).readies was.readies }

    -- so the call never only marks
    pub no_clash : clash S (recorded (s.desk d) p k c) c ≡ false
    no_clash = ⊎_elim (λ t. at (s.desk d).accepted refl (and_parts _ _ t).0 (and_parts (final S (recorded (s.desk d) p k c) c) _ t).1) (λ f. f) (cases_Bool _)
      where
        at : (o : Option C) → (s.desk d).accepted ≡ o → final S (recorded (s.desk d) p k c) c ≡ true → is_other S o c ≡ true → clash S (recorded (s.desk d) p k c) c ≡ false
        at (Some a) e fin oth =
            let ac : a ≡ c = agreement S F s a c (accepted_backs S F s sound d a gd e) (final_backs S F s sound (recorded (s.desk d) p k c) now_true c fin) in
            let y : S.same a c ≡ true = rw ac (F.same_refl c) in
            let z : not true ≡ true = rw y at oth in
            clash_of false z refl
        at None e fin oth = clash_of false oth refl

    receive_is : receive S (s.desk d) p k c ≡ answered S (recorded (s.desk d) p k c) k c
    receive_is = cond-false _ _ _ no_clash

    -- The state after, given by what it holds.
    module _ (enough : 3 * S.t < S.n) (s' : State C) (at_d : s'.desk d ≡ answered S (recorded (s.desk d) p k c) k c) (at_others : (q : ℕ) → (q ≡ d → ⊥) → s'.desk q ≡ s.desk q) (same_offer : s'.offered ≡ s.offered) where
      each : (P : ℕ → Desk C → Type 0) → P d (answered S (recorded (s.desk d) p k c) k c) → ((q : ℕ) → (q ≡ d → ⊥) → P q (s.desk q)) → (q : ℕ) → P q (s'.desk q)
      each P h g q = ⊎_elim (λ e. subst (λ y. P y (s'.desk y)) (sym e) (subst (P d) (sym at_d) h)) (λ ne. subst (P q) (sym (at_others q ne)) (g q ne)) (cases_eq q d)

      grown : (q : ℕ) → Grown (s.desk q) (s'.desk q)
      grown = each (λ q D. Grown (s.desk q) D) (now_grown (s.desk d) p k c (sound.settled d gd)) (λ q ne. record { echoes = λ _ x e. e; readies = λ _ x e. e; echo_sent = λ x e. e; ready_sent = λ x e. e })

      says_grown : (q : ℕ) (l : Kind) (x : C) → says S s q l ≡ Some x → says S s' q l ≡ Some x
      says_grown q init x e = rw same_offer e
      says_grown q echo x e = (grown q).echo_sent x e
      says_grown q ready x e = (grown q).ready_sent x e

      heard_grown : (e q : ℕ) (l : Kind) (x : C) → Heard s e q l x → Heard s' e q l x
      heard_grown e q init x h = let v = some_value _ h in some_yes _ v.0 ((grown e).echo_sent v.0 v.1)
      heard_grown e q echo x h = (grown e).echoes q x h
      heard_grown e q ready x h = (grown e).readies q x h

      backed_grown : (x : C) → Backed S s x → Backed S s' x
      backed_grown x h = omega (arith, among_mono S (λ q. is_same S (s'.desk q).echo_sent x) (λ q. is_same S (s.desk q).echo_sent x) (λ q g e. same_from_some S F _ x ((grown q).echo_sent x (some_from_same S F _ x e))))

      true_grown : (D : Desk C) → TrueVotes S s D → TrueVotes S s' D
      true_grown D v = record { echoes = λ q x g e. (grown q).echo_sent x (v.echoes q x g e); readies = λ q x g e. (grown q).ready_sent x (v.readies q x g e) }

      settled' : (q : ℕ) → Correct S q → Settled S (s'.desk q)
      settled' = each (λ q D. Correct S q → Settled S D) (λ g. now_settled (s.desk d) p k c (sound.settled d gd)) (λ q ne g. sound.settled q g)

      true_votes' : (q : ℕ) → Correct S q → TrueVotes S s' (s'.desk q)
      true_votes' = each (λ q D. Correct S q → TrueVotes S s' D)
          (λ g. let v = true_grown (recorded (s.desk d) p k c) now_true in record { echoes = v.echoes; readies = v.readies })
          (λ q ne g. true_grown (s.desk q) (sound.true_votes q g))

      backed' : (q : ℕ) (x : C) → Correct S q → (s'.desk q).ready_sent ≡ Some x → Backed S s' x
      backed' q x g e = each (λ y D. (z : C) → Correct S y → D.ready_sent ≡ Some z → Backed S s' z)
          (λ z gz h. backed_grown z (⊎_elim (λ a. sound.backed d z gd a) (λ a. rw a.1 (heavy_backs S F s sound (recorded (s.desk d) p k c) now_true c a.0)) (settle_cases _ _ c z h)))
          (λ y ne z gz h. backed_grown z (sound.backed y z gz h)) q x g e

      -- what the origin, if it is not faulty, offered is what is backed
      echo_true : (x : C) → Correct S S.origin → Backed S s x → s.offered ≡ Some x
      echo_true x o b = let r = backed_echoed S F s x b enough in sound.from_origin r.0 x r.1 o r.2

      init_true : eqk k init ≡ true → Correct S S.origin → s.offered ≡ Some c
      init_true e o =
          let ki : k ≡ init = eqk_true k init e in
          let po : p ≡ S.origin = genuine.by_origin ki in
          let said : says S s p k ≡ Some c = genuine.said (subst (Correct S) (sym po) o) in
          let said2 : says S s S.origin init ≡ Some c = rw (po, ki) at said in
          rw (eq-eqb S.origin S.origin refl) at said2

      from_origin' : (q : ℕ) (x : C) → Correct S q → Correct S S.origin → (s'.desk q).echo_sent ≡ Some x → s'.offered ≡ Some x
      from_origin' q x g o e = rw same_offer (each (λ y D. (z : C) → Correct S y → D.echo_sent ≡ Some z → s.offered ≡ Some z)
          (λ z gz h. ⊎_elim (λ a. sound.from_origin d z gd o a)
          (λ a. ⊎_elim (λ i. init_true i o) (λ hv. echo_true c o (heavy_backs S F s sound (recorded (s.desk d) p k c) now_true c hv)) (or_cases _ _ a.0) ∙ ap Some (sym a.1))
          (settle_cases _ _ c z h))
          (λ y ne z gz h. sound.from_origin y z gz o h) q x g e)

      -- frames on the wire before are told after
      told_grown : (f : Frame Kind C) → Told S s f → Told S s' f
      told_grown f h = record { sent_by = h.sent_by; said = says_grown _ _ _ h.said; heard = λ e g y. heard_grown e _ _ _ (h.heard e g y) }

      -- the frame that d takes, it has heard
      d_heard : Correct S p → Heard s' d p k c
      d_heard gp = at k refl
        where
          at : (l : Kind) → k ≡ l → Heard s' d p l c
          at init e = let ki : eqk k init ≡ true = rw e refl in rw at_d (settle_fires (s.desk d).echo_sent _ c (or_left _ _ ki))
          at echo e = rw at_d (vote_there echo (s.desk d).echoes (sound.true_votes d gd).echoes gp e)
          at ready e = rw at_d (vote_there ready (s.desk d).readies (sound.true_votes d gd).readies gp e)

      told_marked : (f : Frame Kind C) → f.sender ≡ p → f.kind ≡ k → f.content ≡ c → Told S s f → Told S s' (mark d f)
      told_marked f ps ks cs h = record {
        sent_by = h.sent_by;
        said = says_grown _ _ _ h.said;
        heard = λ q g y. ⊎_elim (λ a. now q (eqb-true _ _ a)) (λ a. heard_grown q _ _ _ (h.heard q g a)) (or_cases _ _ y);
      }
        where
          now : (q : ℕ) → q ≡ d → Heard s' q f.sender f.kind f.content
          now q e = rw (e, ps, ks, cs) (d_heard (subst (Correct S) ps h.sent_by))

      told_fresh : (l : Kind) (x : C) → says S s' d l ≡ Some x → Told S s' (new d l x)
      told_fresh l x e = record { sent_by = gd; said = e; heard = λ q g y. clash_of false y refl }

      -- The wire: w is the wire before, perhaps with a mark.
      module _ (w : List (Frame Kind C)) (told : All (Told S s') w) (still_on : (q : ℕ) (l : Kind) → list_any (by q l) s.wire ≡ true → list_any (by q l) w ≡ true) (as_long : length w ≡ length s.wire) (wire_is : s'.wire ≡ w ++ sends d (s.desk d) (s'.desk d)) where
        frames' : All (Told S s') s'.wire
        frames' = subst (All (Told S s')) (sym wire_is) (All-append (Told S s') w (sends d (s.desk d) (s'.desk d)) told (All-append (Told S s') echoed readied
            (fresh_all (Told S s') d echo (s.desk d).echo_sent (s'.desk d).echo_sent (λ x e. told_fresh echo x e))
            (fresh_all (Told S s') d ready (s.desk d).ready_sent (s'.desk d).ready_sent (λ x e. told_fresh ready x e))))
          where
            echoed : List (Frame Kind C)
            echoed = fresh d echo (s.desk d).echo_sent (s'.desk d).echo_sent

            readied : List (Frame Kind C)
            readied = fresh d ready (s.desk d).ready_sent (s'.desk d).ready_sent

        on_old : (q : ℕ) (l : Kind) → Correct S q → is_some (says S s q l) ≡ true → list_any (by q l) s'.wire ≡ true
        on_old q l g h = rw wire_is (on_append (by q l) w _ (inl (still_on q l (sound.posted q l g h))))

        -- a kind l of which only d can have sent a frame, on the wire behind w if it did
        posted_by_d : (l : Kind) → ((q : ℕ) → (q ≡ d → ⊥) → says S s' q l ≡ says S s q l) → (list_any (by d l) (fresh d l (says S s d l) (says S s' d l)) ≡ true → list_any (by d l) (sends d (s.desk d) (s'.desk d)) ≡ true) →
            (q : ℕ) → Correct S q → is_some (says S s' q l) ≡ true → list_any (by q l) s'.wire ≡ true
        posted_by_d l others sent q g h = ⊎_elim
            (λ (e : q ≡ d). ⊎_elim
            (λ a. on_old q l g (rw e a))
            (λ a. rw (wire_is, e) (on_append (by d l) w _ (inr (sent a))))
            (fresh_on (by d l) d l (says S s d l) (says S s' d l) (λ x. and_from _ _ (eq-eqb d d refl) (eqk_refl l)) (rw e at h)))
            (λ ne. on_old q l g (ap is_some (sym (others q ne)) ∙ h))
            (cases_eq q d)

        posted' : (q : ℕ) (l : Kind) → Correct S q → is_some (says S s' q l) ≡ true → list_any (by q l) s'.wire ≡ true
        posted' q init g h = on_old q init g (rw same_offer at h)
        posted' q echo g h = posted_by_d echo (λ y ne. ap (λ D. D.echo_sent) (at_others y ne)) (λ a. on_append (by d echo) _ _ (inl a)) q g h
        posted' q ready g h = posted_by_d ready (λ y ne. ap (λ D. D.ready_sent) (at_others y ne)) (λ a. on_append (by d ready) _ _ (inr a)) q g h

        sized' : length s'.wire ≤ how_many (λ q. is_some (s'.desk q).echo_sent) S.n + how_many (λ q. is_some (s'.desk q).ready_sent) S.n + one (is_some s'.offered)
        sized' = rw (wire_is, same_offer) (simp (length-append, as_long) (omega (
          arith,
          sound.sized,
          cnt_point (λ q. is_some (s.desk q).echo_sent) (λ q. is_some (s'.desk q).echo_sent) d S.n gd.known (λ q l ne e. rw (at_others q ne) e),
          cnt_point (λ q. is_some (s.desk q).ready_sent) (λ q. is_some (s'.desk q).ready_sent) d S.n gd.known (λ q l ne e. rw (at_others q ne) e),
          fresh_length d echo (s.desk d).echo_sent (s'.desk d).echo_sent (λ e. let v = some_value _ e in some_yes _ v.0 ((grown d).echo_sent v.0 v.1)),
          fresh_length d ready (s.desk d).ready_sent (s'.desk d).ready_sent (λ e. let v = some_value _ e in some_yes _ v.0 ((grown d).ready_sent v.0 v.1)),
        )))

        pub received_sound : Sound S s'
        received_sound = record {
          settled = settled';
          true_votes = true_votes';
          backed = backed';
          from_origin = from_origin';
          frames = frames';
          posted = posted';
          sized = sized';
        }

  module _ (enough : 3 * S.t < S.n) where
    -- d receives, from the wire or not
    receive_keeps : (s : State C) → Sound S s → (w : List (Frame Kind C)) (d p : ℕ) (k : Kind) (c : C) → Correct S d → Genuine S s p k c →
        ((s' : State C) → ((f : Frame Kind C) → Told S s f → Told S s' f) → ((f : Frame Kind C) → f.sender ≡ p → f.kind ≡ k → f.content ≡ c → Told S s f → Told S s' (mark d f)) → All (Told S s') w) →
        ((q : ℕ) (l : Kind) → list_any (by q l) s.wire ≡ true → list_any (by q l) w ≡ true) → length w ≡ length s.wire → Sound S (received double_echo S s w d p k c)
    receive_keeps s sound w d p k c gd genuine told still_on as_long =
        received_sound s sound d gd p k c genuine enough s' at_d at_others refl w
        (told s' (told_grown s sound d gd p k c genuine enough s' at_d at_others refl) (told_marked s sound d gd p k c genuine enough s' at_d at_others refl))
        still_on as_long wire_is
      where
        s' : State C
        s' = received double_echo S s w d p k c

        here : s'.desk d ≡ receive S (s.desk d) p k c
        here = cond-true _ _ _ (eq-eqb d d refl)

        at_d : s'.desk d ≡ answered S (recorded (s.desk d) p k c) k c
        at_d = here ∙ receive_is s sound d gd p k c genuine

        at_others : (q : ℕ) → (q ≡ d → ⊥) → s'.desk q ≡ s.desk q
        at_others q ne = cond-false _ _ _ (ne_eqb q d ne)

        wire_is : s'.wire ≡ w ++ sends d (s.desk d) (s'.desk d)
        wire_is = ap (λ D. w ++ sends d (s.desk d) D) (sym here)

    offer_keeps : (s : State C) → Sound S s → (c : C) → Correct S S.origin → s.offered ≡ None → Sound S (offering double_echo S s c)
    offer_keeps s sound c go none = record {
      settled = sound.settled;
      true_votes = λ d g. record { echoes = (sound.true_votes d g).echoes; readies = (sound.true_votes d g).readies };
      backed = sound.backed;
      from_origin = λ d x g o e. some_not_none x (sym none ∙ sound.from_origin d x g o e);
      frames = All-push (Told S s') s.wire (new S.origin init c) (All-weaker (Told S s) (Told S s') (λ f h. record { sent_by = h.sent_by; said = says' _ _ _ h.said; heard = λ d g y. heard' d _ _ _ (h.heard d g y) }) s.wire sound.frames) (record { sent_by = go; said = rw (eq-eqb S.origin S.origin refl) refl; heard = λ d g y. clash_of false y refl });
      posted = posted';
      sized = simp length-append (omega (arith, sound.sized, ap (λ o. one (is_some o)) none));
    }
      where
        s' : State C
        s' = record { desk = s.desk; offered = Some c; wire = s.wire ++ new S.origin init c ∷ [] }

        says' : (q : ℕ) (l : Kind) (x : C) → says S s q l ≡ Some x → says S s' q l ≡ Some x
        says' q init x e = at (eqb q S.origin) e
          where
            at : (b : Bool) → cond b s.offered None ≡ Some x → cond b (Some c) None ≡ Some x
            at true h = some_not_none x (sym none ∙ h)
            at false h = h
        says' q echo x e = e
        says' q ready x e = e

        heard' : (d q : ℕ) (l : Kind) (x : C) → Heard s d q l x → Heard s' d q l x
        heard' d q init x h = h
        heard' d q echo x h = h
        heard' d q ready x h = h

        posted' : (q : ℕ) (l : Kind) → Correct S q → is_some (says S s' q l) ≡ true → list_any (by q l) s'.wire ≡ true
        posted' q init g h = on_append (by q init) s.wire _ (inr (at (eqb q S.origin) refl h))
          where
            at : (b : Bool) → eqb q S.origin ≡ b → is_some (cond b (Some c) None) ≡ true → list_any (by q init) (new S.origin init c ∷ []) ≡ true
            at true e y = or_left _ _ (and_from _ _ (eq-eqb S.origin q (sym (eqb-true _ _ e))) refl)
            at false e y = clash_of false y refl
        posted' q echo g h = on_append (by q echo) s.wire _ (inl (sound.posted q echo g h))
        posted' q ready g h = on_append (by q ready) s.wire _ (inl (sound.posted q ready g h))

    pub step_keeps : (s s' : State C) → Sound S s → Step double_echo S s s' → Sound S s'
    step_keeps s s' sound (offer c go none) = offer_keeps s sound c go none
    step_keeps s s' sound (take d i f gd l e) =
        receive_keeps s sound (set s.wire i (mark d f)) d f.sender f.kind f.content gd
        (record { by_origin = at_origin f.sender f.kind f.content told.said; said = λ g. told.said })
        (λ t grown marked. All-set (Told S t) s.wire i (mark d f) (marked f refl refl refl told) (All-weaker (Told S s) (Told S t) grown s.wire sound.frames))
        (λ q k o. on_set (by q k) s.wire i f (mark d f) l e refl o)
        (length-set _ _ _)
      where
        told : Told S s f
        told = subst (Told S s) (sym e) (All-get_or (Told S s) s.wire i f l sound.frames)

        at_origin : (p : ℕ) (k : Kind) (c : C) → says S s p k ≡ Some c → k ≡ init → p ≡ S.origin
        at_origin p k c h ki = at (eqb p S.origin) refl (subst (λ y. says S s p y ≡ Some c) ki h)
          where
            at : (b : Bool) → eqb p S.origin ≡ b → cond b s.offered None ≡ Some c → p ≡ S.origin
            at true y z = eqb-true _ _ y
            at false y z = some_not_none c z
    step_keeps s s' sound (feign d p k c gd l bad o) =
        receive_keeps s sound s.wire d p k c gd
        (record { by_origin = o; said = λ g. clash_of _ bad g.honest })
        (λ t grown marked. All-weaker (Told S s) (Told S t) grown s.wire sound.frames)
        (λ q k o. o) refl

    no_votes : (x : C) → votes S (λ q. None) x ≡ 0
    no_votes x = cnt_never S.n

    pub start_sound : Sound S (start double_echo)
    start_sound = record {
      settled = λ d g. record {
        by_votes = λ x e. some_not_none x e;
        echoed = λ x h. let z : ⊥ = omega (arith, no_votes x, h) in absurd z;
        joined = λ x h. let z : ⊥ = omega (arith, no_votes x, h) in absurd z;
        done = λ x h. let z : ⊥ = omega (arith, no_votes x, h) in absurd z;
      };
      true_votes = λ d g. record { echoes = λ q x gq e. e; readies = λ q x gq e. e };
      backed = λ d x g e. some_not_none x e;
      from_origin = λ d x g o e. e;
      frames = All-nil _;
      posted = λ q k g h. nothing q k h;
      sized = omega arith;
    }
      where
        nothing : (q : ℕ) (k : Kind) → is_some (says S (start double_echo) q k) ≡ true → list_any (by {C = C} q k) [] ≡ true
        nothing q init h = at (eqb q S.origin) h
          where
            at : (b : Bool) → is_some (cond {A = Option C} b None None) ≡ true → false ≡ true
            at true y = y
            at false y = y
        nothing q echo h = h
        nothing q ready h = h

    pub reached_sound : (s : State C) → Reached double_echo S s → Sound S s
    reached_sound s at_start = start_sound
    reached_sound s (then_step {s = r} h st) = step_keeps r s (reached_sound r h) st
