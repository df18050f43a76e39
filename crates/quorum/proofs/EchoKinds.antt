-- The kinds of the double echo broadcast. Assumes nothing.
use Rattle.std.proofs.Common.{◌≡◌, true, false, refl}
use Rattle.quorum.specs.DoubleEcho.{Kind, init, echo, ready, eqk}
use Rattle.quorum.proofs.Basics.{clash_of}

pub eqk_true : (k l : Kind) → eqk k l ≡ true → k ≡ l
eqk_true init init e = refl
eqk_true echo echo e = refl
eqk_true ready ready e = refl
eqk_true _ _ e = clash_of false e refl

pub eqk_refl : (k : Kind) → eqk k k ≡ true
eqk_refl init = refl
eqk_refl echo = refl
eqk_refl ready = refl
