-- Runs of moves are reached.
use Rattle.std.proofs.Common.{◌≡◌, ℕ, ◌<◌, Bool, true, false, not, eqb, List, [], ◌∷◌, length, get_or, Some, None, Option, sym, refl, ap, ◌∙◌, ⊎_elim}
use Rattle.std.specs.List.{slice_get}
use Rattle.std.specs.Option.{is_some}
use Rattle.std.proofs.lemmas.Bool.{and_parts, or_cases, ltb-true, eqb-true, not-true, cond_both}
use Rattle.std.proofs.lemmas.Option.{get_or_from_slice_get, slice_get_within}
use Rattle.quorum.specs.Frames.{Setting, Correct, Frame}
use Rattle.quorum.specs.Machine.{Protocol, State, start, offer, take, feign, Reached, at_start, then_step}
use Rattle.quorum.specs.Runs.{Move, offers, takes, feigns, good, took, moved, run, RunsReach}
use Rattle.quorum.proofs.Basics.{clash_of}

module _ {D K C : Type 0} (P : Protocol D K C) (firstly : K → Bool) (is_first : firstly P.first ≡ true) (S : Setting C) where
  good_is : (d : ℕ) → good S d ≡ true → Correct S d
  good_is d e = let r = and_parts _ _ e in record { known = ltb-true _ _ r.0; honest = not-true _ r.1 }

  nothing_there : (o : Option C) → is_some o ≡ false → o ≡ None
  nothing_there (Some x) e = clash_of true refl e
  nothing_there None e = refl

  stands : (w : List (Frame K C)) (i : ℕ) (f : Frame K C) → slice_get w i ≡ Some f → (i < length w) × (f ≡ get_or w i f)
  stands w i f e = (slice_get_within w i f e, sym (get_or_from_slice_get w i f f e))

  moves : (s : State D K C) (m : Move K C) → Reached P S s → Reached P S (moved P firstly S s m)
  moves s (offers c) h = cond_both _ _ _ (Reached P S) (λ e. let r = and_parts _ _ e in then_step h (offer c (good_is _ r.0) (nothing_there _ (not-true _ r.1)))) (λ _. h)
  moves s (takes d i) h = cond_both _ _ _ (Reached P S) (λ e. at (slice_get s.wire i) refl (good_is d e)) (λ _. h)
    where
      at : (o : Option (Frame K C)) → slice_get s.wire i ≡ o → Correct S d → Reached P S (took P S s d i o)
      at (Some f) e g = let r = stands s.wire i f e in then_step h (take d i f g r.0 r.1)
      at None e g = h
  moves s (feigns d p k c) h = cond_both _ _ _ (Reached P S) (λ e. let r = and_parts _ _ e in let q = and_parts _ _ r.1 in let u = and_parts _ _ q.0 in
      then_step h (feign d p k c (good_is d r.0) (ltb-true _ _ u.0) u.1 (λ ki. ⊎_elim (λ a. clash_of (firstly k) (ap firstly ki ∙ is_first) (not-true _ a)) (λ a. eqb-true _ _ a) (or_cases (not (firstly k)) (eqb p S.origin) q.1)))) (λ _. h)

  runs : (s : State D K C) (ms : List (Move K C)) → Reached P S s → Reached P S (run P firstly S s ms)
  runs s [] h = h
  runs s (m ∷ ms) h = runs (moved P firstly S s m) ms (moves s m h)

pub runs_reach : {D K C : Type 0} → RunsReach D K C
runs_reach P firstly is_first S ms = runs P firstly is_first S (start P) ms at_start
