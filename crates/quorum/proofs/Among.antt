-- Counts of the desks that are not faulty.
use Rattle.std.proofs.Common.{◌≡◌, ℕ, ◌+◌, ◌<◌, ◌≤◌, Bool, true, not, ◌&&◌, ◌⊎◌, refl, inl, inr, ⊎_elim, arith}
use Rattle.std.proofs.lemmas.Bool.{and_parts, and_from, cases_Bool, not-true, not_from_false}
use Rattle.desks.specs.Sets.{how_many}
use Rattle.quorum.specs.Frames.{Setting, Correct, among, faults}
use Rattle.quorum.proofs.Counting.{cnt_mono, cnt_split, cnt_apart, cnt_not, cnt_some}

module _ {C : Type 0} (S : Setting C) where
  masked : (q : ℕ) (b : Bool) → Correct S q → b ≡ true → (not (S.faulty q) && b) ≡ true
  masked q b g e = and_from _ _ (not_from_false _ g.honest) e

  masked_good : (q : ℕ) (b : Bool) → q < S.n → (not (S.faulty q) && b) ≡ true → Correct S q
  masked_good q b l e = record { known = l; honest = not-true _ (and_parts _ _ e).0 }

  masked_is : (q : ℕ) (b : Bool) → (not (S.faulty q) && b) ≡ true → b ≡ true
  masked_is q b e = (and_parts (not (S.faulty q)) b e).1

  -- A test v of all desks, and a test h of those that are not faulty.
  module _ (v h : ℕ → Bool) where
    -- where v says h of all but the faulty, few more pass v
    pub among_bound : ((q : ℕ) → Correct S q → v q ≡ true → h q ≡ true) → how_many v S.n ≤ among S h + faults S
    among_bound f = cnt_split v (λ q. not (S.faulty q) && h q) S.faulty S.n at
      where
        at : (q : ℕ) → q < S.n → v q ≡ true → ((not (S.faulty q) && h q) ≡ true) ⊎ (S.faulty q ≡ true)
        at q l e = ⊎_elim (λ b. inr b) (λ b. let g : Correct S q = record { known = l; honest = b } in inl (masked q _ g (f q g e))) (cases_Bool (S.faulty q))

    pub among_all : ((q : ℕ) → Correct S q → h q ≡ true → v q ≡ true) → among S h ≤ how_many v S.n
    among_all f = cnt_mono (λ q. not (S.faulty q) && h q) v S.n (λ q l e. f q (masked_good q _ l e) (masked_is q _ e))

    pub among_mono : ((q : ℕ) → Correct S q → h q ≡ true → v q ≡ true) → among S h ≤ among S v
    among_mono f = cnt_mono (λ q. not (S.faulty q) && h q) (λ q. not (S.faulty q) && v q) S.n (λ q l e. let g = masked_good q _ l e in masked q _ g (f q g (masked_is q _ e)))

    -- tests that never pass together
    pub among_apart : ((q : ℕ) → Correct S q → v q ≡ true → h q ≡ true → ⊥) → among S v + among S h + faults S ≤ S.n
    among_apart f = omega (arith, cnt_not S.faulty S.n, cnt_apart (λ q. not (S.faulty q) && v q) (λ q. not (S.faulty q) && h q) (λ q. not (S.faulty q)) S.n (λ q l e. (and_parts _ _ e).0) (λ q l e. (and_parts _ _ e).0) (λ q l a b. f q (masked_good q _ l a) (masked_is q _ a) (masked_is q _ b)))

  pub among_either : (v g h : ℕ → Bool) → ((q : ℕ) → Correct S q → v q ≡ true → (g q ≡ true) ⊎ (h q ≡ true)) → among S v ≤ among S g + among S h
  among_either v g h f = cnt_split (λ q. not (S.faulty q) && v q) (λ q. not (S.faulty q) && g q) (λ q. not (S.faulty q) && h q) S.n
      (λ q l e. let y = masked_good q _ l e in ⊎_elim (λ a. inl (masked q _ y a)) (λ a. inr (masked q _ y a)) (f q y (masked_is q _ e)))

  pub among_whole : (h : ℕ → Bool) → ((q : ℕ) → Correct S q → h q ≡ true) → S.n ≤ among S h + faults S
  among_whole h f = omega (arith, cnt_not S.faulty S.n, cnt_mono (λ q. not (S.faulty q)) (λ q. not (S.faulty q) && h q) S.n at)
    where
      at : (q : ℕ) → q < S.n → not (S.faulty q) ≡ true → (not (S.faulty q) && h q) ≡ true
      at q l e = let g : Correct S q = masked_good q true l (rw e refl) in masked q _ g (f q g)

  pub among_some : (h : ℕ → Bool) → 0 < among S h → (q : ℕ) × Correct S q × (h q ≡ true)
  among_some h l = let r = cnt_some (λ q. not (S.faulty q) && h q) S.n l in
      (r.0, masked_good r.0 _ r.1 r.2, masked_is r.0 _ r.2)
