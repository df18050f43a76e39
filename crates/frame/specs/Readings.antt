-- What the reader answers to bytes, and what the writer leaves in the output. Assumes nothing.
use Rattle.std.specs.Prelude.{ℕ, ◌+◌, cond, not, ◌&&◌, List, [], ◌∷◌, ◌++◌, length, drop, Ok, Err, Option, Result, ◌==◌, nat_le, nat_lt, slice_index}
use Rattle.std.specs.Option.{unwrap_or}
use Rattle.desks.specs.Firsts.{Tests, first, unless}
use Rattle.desks.specs.Forming.{outside}
use Rattle.desks.specs.Sizes.{item_size}
use Rattle.frame.specs.declared.kinds.Kind.{Kind}
use Rattle.frame.specs.declared.kinds.Kind.TheVariants as kind
use Rattle.frame.specs.declared.kinds.Kinds.{Kinds}
use Rattle.frame.specs.declared.frame.Frame.{Frame}
use Rattle.frame.specs.declared.faults.FrameFault.{FrameFault}
use Rattle.frame.specs.declared.faults.FrameFault.TheVariants as fault
use Rattle.frame.specs.Kinds.{code_of, kind_of, has_code}
use Rattle.frame.specs.Frames.{Saying, saying, frame_content, bytes_of}

-- why bytes from a peer are not read, in order: n desks, at most s numbers, the kinds that are known
abbrev pub frame_tests : List ℕ → ℕ → ℕ → Kinds → ℕ → Tests FrameFault
frame_tests bs n s ks peer =
    (not (length bs == 3 + n + item_size), fault.Length (length bs))
    ∷ (not (has_code ks (kind_of (slice_index bs 0))), fault.Kind)
    ∷ (nat_le n (slice_index bs 1), fault.Origin)
    ∷ (outside 1 s (slice_index bs 2), fault.Number)
    ∷ (slice_index bs 0 == code_of kind.Init && not (slice_index bs 1 == peer), fault.Stranger)
    ∷ []

-- the kind that is there; INIT stands in where there is none, and no such bytes are read
abbrev pub kind_or_init : Option Kind → Kind
kind_or_init o = unwrap_or o kind.Init

-- what bytes say: the kind of the first, the second and the third, and those behind them
abbrev pub said : List ℕ → Saying
said bs = record { kind = kind_or_init (kind_of (slice_index bs 0)); origin = slice_index bs 1; number = slice_index bs 2; content = drop 3 bs }

-- the first refusal that applies, or what the bytes say
abbrev pub reading : List ℕ → ℕ → ℕ → Kinds → ℕ → Result Saying FrameFault
reading bs n s ks peer = unless (first (frame_tests bs n s ks peer)) (said bs)

-- an answer of the reader in plain values
abbrev pub reply : Result Frame FrameFault → Result Saying FrameFault
reply (Ok f) = Ok (saying f)
reply (Err e) = Err e

-- the bytes that a frame needs
abbrev pub needed_by : Frame → ℕ
needed_by f = 3 + length (frame_content f)

-- the output is too short, by its length
abbrev pub output_tests : Frame → ℕ → Tests FrameFault
output_tests f room = (nat_lt room (needed_by f), fault.Output (needed_by f)) ∷ []

-- the output after a frame is written: its bytes, and what was behind them; nothing changes where it is too short
abbrev pub written : Frame → List ℕ → List ℕ
written f out = cond (nat_lt (length out) (needed_by f)) out (bytes_of f ++ drop (needed_by f) out)
