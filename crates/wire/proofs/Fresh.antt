-- The empty set has no desk.
use Rattle.std.proofs.Common.{◌≡◌, ℕ, ◌/◌, ◌%◌, ◌^◌, Bool, true, false, ◌&&◌, eqb, ltb, refl, ap, ◌∙◌}
use native.Mathlib.Nat.{div-eq_of_lt}
use Rattle.std.proofs.lemmas.Nat.{pow_pos}
use Rattle.desks.specs.declared.set.DeskSet.{DeskSet}
use Rattle.desks.specs.Sets.{has_desk}

and_false : (b : Bool) → (b && false) ≡ false
and_false true = refl
and_false false = refl

pub untaken : (s : DeskSet) → s.bits ≡ 0 → (q : ℕ) → has_desk s.bits q ≡ false
untaken s e q =
    let z : s.bits / 2 ^ q ≡ 0 = ap (λ b. b / 2 ^ q) e ∙ div-eq_of_lt (pow_pos q) in
    ap (λ x. ltb q 16 && eqb (x % 2) 1) z ∙ and_false (ltb q 16)
