-- What a write to one piece of a list leaves of the others.
use Rattle.std.proofs.Common.{◌≡◌, ℕ, ◌+◌, ◌*◌, ◌<◌, ◌≤◌, ◌≢◌, List, length, take, drop, refl, sym, ⊎_elim, arith}
use lib.Seq.{paste}
use Rattle.std.proofs.lemmas.List.{drop-take}
use Rattle.std.proofs.lemmas.Slice.{put_mid-paste, take-put_mid_below}
use Rattle.std.proofs.lemmas.Grind.{common_steps, elements, rows}
use Rattle.std.proofs.lemmas.Bool.{cases_lt}

-- the w bytes from a on
abbrev pub part : ℕ → ℕ → List ℕ → List ℕ
part a w d = take w (drop a d)

module _ (d x : List ℕ) (a w : ℕ) (h : a + w ≤ length d) (e : length x ≡ w) where
  pub here : part a w (paste d a x w) ≡ x
  here = grind (arith, common_steps)

  pub below : (b : ℕ) → b + w ≤ a → part b w (paste d a x w) ≡ part b w d
  below b l =
      let p = put_mid-paste a w d x x w refl refl (sym e) in
      cc (drop-take b w (paste d a x w), drop-take b w d, take-put_mid_below a w d x (b + w) l (omega arith))

  pub above : (b : ℕ) → a + w ≤ b → part b w (paste d a x w) ≡ part b w d
  above b l = grind (arith, elements)

before : (i n w : ℕ) → i < n → i * w + w ≤ n * w
before i n w h = grind (arith, rows)

pub other : (d x : List ℕ) (i j w : ℕ) → i * w + w ≤ length d → length x ≡ w → j ≢ i → part (j * w) w (paste d (i * w) x w) ≡ part (j * w) w d
other d x i j w h e ne =
    ⊎_elim (λ l. below d x (i * w) w h e (j * w) (before j i w l)) (λ l. above d x (i * w) w h e (j * w) (before i j w (omega arith))) (cases_lt j i)
