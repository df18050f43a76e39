-- Each identity of an network goes its own way.
use Rattle.std.proofs.Common.{◌≡◌, ℕ, Bool, true, false, List, [], ◌∷◌, ◌++◌, map, set, Option, sym, refl, ap, ◌∙◌, subst, ⊎_elim, append-nil}
use Rattle.std.proofs.lemmas.Bool.{and_parts, and_from, eqb-true, eq-eqb, cond-true, cond-false, cases_Bool}
use Rattle.quorum.specs.Frames.{Frame, new, mark}
use Rattle.quorum.specs.Machine.{Protocol, State, start, offering, received, Step, offer, take, feign, Reached, at_start, then_step, Lawful}
use Rattle.quorum.specs.Parts.{rank}
use Rattle.quorum.specs.Network.{Named, named, same_identity, of, wire_of, Network, view, puts, opening, offering_at, received_at, Common, setting, Action, Attained, at_outset, then_action, LawfulEverywhere}
use Rattle.quorum.specs.Network
use Rattle.quorum.proofs.Basics.{clash_of}
use Rattle.quorum.proofs.PartsShown.{part_append, part_other, rank_below, rank_get, rank_set}

same_refl : (o m : ℕ) → same_identity o m o m ≡ true
same_refl o m = and_from _ _ (eq-eqb o o refl) (eq-eqb m m refl)

identity_sym : (o m p l : ℕ) → same_identity o m p l ≡ false → same_identity p l o m ≡ false
identity_sym o m p l e = ⊎_elim (λ t. let r = and_parts _ _ t in clash_of _ (and_from _ _ (eq-eqb p o (sym (eqb-true _ _ r.0))) (eq-eqb l m (sym (eqb-true _ _ r.1)))) e) (λ f. f) (cases_Bool (same_identity p l o m))

-- what holds at the identity, and of what is as it was
by_identity : (Q : ℕ → ℕ → Type 0) (o m : ℕ) → Q o m → ((p l : ℕ) → same_identity o m p l ≡ false → Q p l) → (p l : ℕ) → Q p l
by_identity Q o m h g p l = ⊎_elim (λ t. let r = and_parts _ _ t in subst (λ y. Q y l) (sym (eqb-true _ _ r.0)) (subst (Q o) (sym (eqb-true _ _ r.1)) h)) (λ f. g p l f) (cases_Bool (same_identity o m p l))

module _ {K C : Type 0} where
  -- the part of what is nameded with an identity
  named_in : (o m : ℕ) (fs : List (Frame K C)) → wire_of o m (map (named o m) fs) ≡ fs
  named_in o m [] = refl
  named_in o m (f ∷ fs) = rw (same_refl o m) (ap (λ l. f ∷ l) (named_in o m fs))

  named_out : (o m p l : ℕ) (fs : List (Frame K C)) → same_identity p l o m ≡ false → wire_of p l (map (named o m) fs) ≡ []
  named_out o m p l [] e = refl
  named_out o m p l (f ∷ fs) e = rw e (named_out o m p l fs e)

module _ {D K C : Type 0} where
  -- two states with the same parts
  one_state : (a b : ℕ → D) (u v : Option C) (w x : List (Frame K C)) → a ≡ b → u ≡ v → w ≡ x → ◌≡◌ {A = State D K C} (record { desk = a; offered = u; wire = w }) (record { desk = b; offered = v; wire = x })
  one_state a b u v w x p q r = λ i. record { desk = p i; offered = q i; wire = r i }

  module _ (P : Protocol D K C) (H : Common C) (s : Network D K C) where
    -- at another identity nothing changes
    other_offer : (o m p l : ℕ) (c : C) → same_identity o m p l ≡ false → same_identity p l o m ≡ false → view (offering_at P s o m c) p l ≡ view s p l
    other_offer o m p l c e f = one_state _ _ _ _ _ _ refl (cond-false _ _ _ e) (part_append (of p l) (λ x. x.frame) s.wire _ ∙ ap (λ y. wire_of p l s.wire ++ y) (named_out o m p l (new o P.first c ∷ []) f) ∙ append-nil _)

    other_receive : (w : List (Named K C)) (o m p l d q : ℕ) (k : K) (c : C) → same_identity o m p l ≡ false → same_identity p l o m ≡ false → wire_of p l w ≡ wire_of p l s.wire → view (received_at P (setting H) s w o m d q k c) p l ≡ view s p l
    other_receive w o m p l d q k c e f g = one_state _ _ _ _ _ _ (cond-false _ _ _ e) refl (part_append (of p l) (λ x. x.frame) w _ ∙ ap (λ y. wire_of p l w ++ y) (named_out o m p l _ f) ∙ append-nil _ ∙ g)

    -- and at its own identity a step is made
    own_offer : (o m : ℕ) (c : C) → view (offering_at P s o m c) o m ≡ offering P (setting H o) (view s o m) c
    own_offer o m c = one_state _ _ _ _ _ _ refl (cond-true _ _ _ (same_refl o m)) (part_append (of o m) (λ x. x.frame) s.wire _ ∙ ap (λ y. wire_of o m s.wire ++ y) (named_in o m (new o P.first c ∷ [])))

    own_receive : (w : List (Named K C)) (v : List (Frame K C)) (o m d q : ℕ) (k : K) (c : C) → wire_of o m w ≡ v → view (received_at P (setting H) s w o m d q k c) o m ≡ received P (setting H o) (view s o m) v d q k c
    own_receive w v o m d q k c g = one_state _ _ _ _ _ _ (cond-true _ _ _ (same_refl o m)) refl (part_append (of o m) (λ x. x.frame) w _ ∙ ap (λ y. wire_of o m w ++ y) (named_in o m sent) ∙ ap (λ y. y ++ sent) g)
      where
        sent : List (Frame K C)
        sent = P.sends (setting H o) d (s.desk o m d) (P.receive (setting H o) (s.desk o m d) q k c) c

  -- What every step keeps at an identity, every turn keeps at all identities.
  module _ (P : Protocol D K C) (H : Common C) (Q : ℕ → State D K C → Type 0) (keeps : (o : ℕ) (v v' : State D K C) → Step P (setting H o) v v' → Q o v → Q o v') where
    pub action_keeps : (s s' : Network D K C) → Action P H s s' → ((o m : ℕ) → Q o (view s o m)) → (o m : ℕ) → Q o (view s' o m)
    action_keeps s s' (Network.offer o m c g none) h = by_identity (λ p l. Q p (view s' p l)) o m
        (subst (Q o) (sym (own_offer P H s o m c)) (keeps o _ _ (offer c g none) (h o m)))
        (λ p l e. subst (Q p) (sym (other_offer P H s o m p l c e (identity_sym o m p l e))) (h p l))
    action_keeps s s' (Network.take d i x g b e) h = by_identity (λ p l. Q p (view s' p l)) x.origin x.number
        (subst (Q x.origin) (sym (own_receive P H s _ (set (wire_of x.origin x.number s.wire) (rank T s.wire i) (mark d x.frame)) x.origin x.number d _ _ _ (rank_set T (λ y. y.frame) s.wire i x b e _ yes' yes')))
        (keeps x.origin _ _ (take d (rank T s.wire i) x.frame g (rank_below T (λ y. y.frame) s.wire i x b e yes') (rank_get T (λ y. y.frame) s.wire i x b e yes')) (h x.origin x.number)))
        (λ p l f. let f' = identity_sym x.origin x.number p l f in
        subst (Q p) (sym (other_receive P H s _ x.origin x.number p l d _ _ _ f f' (part_other (of p l) (λ y. y.frame) s.wire i x b e _ f' f'))) (h p l))
      where
        T : Named K C → Bool
        T = of x.origin x.number

        yes' : same_identity x.origin x.number x.origin x.number ≡ true
        yes' = same_refl x.origin x.number
    action_keeps s s' (Network.feign o m d p k c g b bad first) h = by_identity (λ q l. Q q (view s' q l)) o m
        (subst (Q o) (sym (own_receive P H s s.wire (wire_of o m s.wire) o m d p k c refl)) (keeps o _ _ (feign d p k c g b bad first) (h o m)))
        (λ q l e. subst (Q q) (sym (other_receive P H s s.wire o m q l d p k c e (identity_sym o m q l e) refl)) (h q l))

    pub attained_keeps : ((o : ℕ) → Q o (start P)) → (s : Network D K C) → Attained P H s → (o m : ℕ) → Q o (view s o m)
    attained_keeps h s at_outset o m = h o
    attained_keeps h s (then_action {s = r} a t) o m = action_keeps r s t (attained_keeps h r a) o m

  pub views_reached : (P : Protocol D K C) (H : Common C) (s : Network D K C) → Attained P H s → (o m : ℕ) → Reached P (setting H o) (view s o m)
  views_reached P H = attained_keeps P H (λ o v. Reached P (setting H o) v) (λ o v v' t r. then_step r t) (λ o. at_start)

  -- a protocol that is lawful for one identity is lawful for all
  pub lift : (P : Protocol D K C) (m : ℕ) → Lawful P m → LawfulEverywhere P m
  lift P m lawful H fair enough s a o l = lawful (setting H o) (record { few = fair.few; same_refl = fair.same_refl; same_true = fair.same_true }) enough (view s o l) (views_reached P H s a o l)
