-- The part of a list that passes a test. Assumes nothing.
use Rattle.std.proofs.Common.{◌≡◌, ℕ, suc, ◌<◌, Bool, true, false, List, ◌∷◌, ◌++◌, map, length, get_or, take, drop, set, sym, refl, ap, ◌∙◌, arith, length-append}
use Rattle.std.specs.List.{All, filter}
use Rattle.std.proofs.lemmas.List.{length-map, map-append, set_split, set-get_or}
use Rattle.std.proofs.lemmas.List.Elements.{filter-append, filter_passes, All-filter, All-map}
use Rattle.std.proofs.lemmas.List.Sums.{length-filter}
use Rattle.std.proofs.Math.Seq.{get_or-append_seam, set-append_seam}
use Rattle.quorum.specs.Parts.{part, rank}

module _ {X Y : Type 0} (T : X → Bool) (g : X → Y) where
  pub part_append : (u v : List X) → part T g (u ++ v) ≡ part T g u ++ part T g v
  part_append u v = ap (map g) (filter-append T u v) ∙ map-append g (filter T u) (filter T v)

  -- as many of the part stand before place i as its rank says
  before : (w : List X) (i : ℕ) → length (part T g (take i w)) ≡ rank T w i
  before w i = length-map (filter T (take i w)) g ∙ length-filter T (take i w)

  module _ (w : List X) (i : ℕ) (x : X) (inside : i < length w) (there : x ≡ get_or w i x) where
    -- the part of the list with y at place i, and of the list as it is
    part_set : (y : X) → part T g (set w i y) ≡ part T g (take i w) ++ part T g (y ∷ drop (suc i) w)
    part_set y = ap (part T g) (set_split w i y inside) ∙ part_append (take i w) (y ∷ drop (suc i) w)

    part_here : part T g w ≡ part T g (take i w) ++ part T g (x ∷ drop (suc i) w)
    part_here = ap (part T g) (sym (ap (set w i) there ∙ set-get_or w i x)) ∙ part_set x

    -- a change of an element that is in no part
    pub part_other : (y : X) → T x ≡ false → T y ≡ false → part T g (set w i y) ≡ part T g w
    part_other y p q = rw (part_set y, part_here, p, q) refl

    -- the place of an element that is in the part
    pub rank_below : T x ≡ true → rank T w i < length (part T g w)
    rank_below p = rw (part_here, p, length-append) (omega (arith, before w i))

    pub rank_get : T x ≡ true → g x ≡ get_or (part T g w) (rank T w i) (g x)
    rank_get p = rw (← before w i, part_here, p) (sym (get_or-append_seam (part T g (take i w)) (g x) (part T g (drop (suc i) w)) (g x)))

    pub rank_set : (y : X) → T x ≡ true → T y ≡ true → part T g (set w i y) ≡ set (part T g w) (rank T w i) (g y)
    rank_set y p q = rw (← before w i, part_here, part_set y, p, q) (sym (set-append_seam (part T g (take i w)) (g x) (part T g (drop (suc i) w)) (g y)))

  pub part_all : (P : Y → Type 0) (w : List X) → All (λ x. T x ≡ true → P (g x)) w → All P (part T g w)
  part_all P w a = All-map P g (filter T w) (λ k d l. All-filter T (λ x. T x ≡ true → P (g x)) w a k d l (filter_passes T w k d l))
