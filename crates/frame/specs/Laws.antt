-- What reader and writer keep: a frame and its bytes determine each other. Assumes nothing.
use Rattle.std.specs.Prelude.{◌≡◌, ℕ, ◌+◌, ◌<◌, ◌≤◌, true, List, length, take, Ok, Result}
use Rattle.desks.specs.Sizes.{item_size}
use Rattle.frame.specs.declared.kinds.Kind.TheVariants as kind
use Rattle.frame.specs.declared.kinds.Kinds.{Kinds}
use Rattle.frame.specs.declared.frame.Frame.{Frame}
use Rattle.frame.specs.declared.faults.FrameFault.{FrameFault}
use Rattle.frame.specs.Kinds.{has_kind}
use Rattle.frame.specs.Frames.{frame_kind, frame_origin, frame_number, frame_content, saying, bytes_of}
use Rattle.frame.specs.Readings.{reading, reply}

-- a frame fits a group of n desks with at most s numbers, the kinds that are known, and the peer that it comes from. That its
-- content is of bytes need not be said: every slice of the code is.
pub record Fitting (n s : ℕ) (ks : Kinds) (peer : ℕ) (f : Frame) : Type 0 where
  pub known : has_kind ks (frame_kind f) ≡ true
  pub origin : frame_origin f < n
  pub least : 1 ≤ frame_number f
  pub most : frame_number f ≤ s
  pub size : length (frame_content f) ≡ n + item_size
  pub own : frame_kind f ≡ kind.Init → frame_origin f ≡ peer

-- a frame that is read fits, and its bytes are those read: no two byte strings read alike
abbrev pub ReadsItsBytes : List ℕ → ℕ → ℕ → Kinds → ℕ → Result Frame FrameFault → Type 0
ReadsItsBytes bs n s ks peer r = (f : Frame) → r ≡ Ok f → Fitting n s ks peer f × (bytes_of f ≡ bs)

-- a frame that fits is read from its bytes
abbrev pub ReadsWhatFits : List ℕ → ℕ → ℕ → Kinds → ℕ → Result Frame FrameFault → Type 0
ReadsWhatFits bs n s ks peer r = (f : Frame) → Fitting n s ks peer f → bs ≡ bytes_of f → reply r ≡ Ok (saying f)

-- what is written of a frame that fits reads back as the frame
abbrev pub ReadsBack : Frame → Result ℕ FrameFault → List ℕ → Type 0
ReadsBack f r out =
    (n s : ℕ) (ks : Kinds) (peer : ℕ) → Fitting n s ks peer f → (m : ℕ) → r ≡ Ok m → reading (take m out) n s ks peer ≡ Ok (saying f)
