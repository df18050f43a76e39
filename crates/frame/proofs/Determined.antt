-- A kind and its code, and a frame read from its bytes, for the crates above.
use Rattle.std.proofs.Common.{◌≡◌, ℕ, Some, Ok, refl, arith}
use Rattle.std.proofs.lemmas.Bool.Decides.{nat_tests}
use Rattle.std.proofs.lemmas.Grind.{common_steps}
use Rattle.frame.specs.declared.kinds.Kind.{Kind}
use Rattle.frame.specs.declared.kinds.Kind.TheVariants as kind
use Rattle.frame.specs.declared.kinds.Kinds.{Kinds}
use Rattle.frame.specs.declared.frame.Frame.{Frame}
use Rattle.frame.specs.Kinds.{code_of, kind_of}
use Rattle.frame.specs.Frames.{saying, frame_kind, bytes_of}
use Rattle.frame.specs.Readings.{reading}
use Rattle.frame.specs.Laws.{Fitting}

pub code_is : (b : ℕ) (k : Kind) → kind_of b ≡ Some k → b ≡ code_of k
code_is b kind.Init e = grind (arith, nat_tests)
code_is b kind.Echo e = grind (arith, nat_tests)
code_is b kind.Ready e = grind (arith, nat_tests)
code_is b kind.Witness e = grind (arith, nat_tests)

pub kind_is : (k : Kind) → kind_of (code_of k) ≡ Some k
kind_is kind.Init = refl
kind_is kind.Echo = refl
kind_is kind.Ready = refl
kind_is kind.Witness = refl

-- a frame that fits is read from its bytes
pub read_back : (f : Frame) (n s : ℕ) (ks : Kinds) (peer : ℕ) → Fitting n s ks peer f → reading (bytes_of f) n s ks peer ≡ Ok (saying f)
read_back f n s ks peer h = let k = kind_is (frame_kind f) in grind (arith, common_steps, nat_tests)
