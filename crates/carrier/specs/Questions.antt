-- What the questions of a carrier answer. Assumes nothing.
use Rattle.std.specs.Prelude.{ℕ, ◌+◌, List, [], Ok, Err, Option, Result}
use Rattle.std.specs.Borrow.{Bor}
use Rattle.std.specs.List.{slice_get}
use Rattle.std.specs.Option.{option_copied, unwrap_or}
use Rattle.desks.specs.declared.group.Group.{Group}
use Rattle.desks.specs.Firsts.{first, unless}
use Rattle.desks.specs.Sizes.{item_size}
use Rattle.frame.specs.declared.kinds.Kind.TheVariants.{Init}
use Rattle.wire.specs.declared.sent.Sent.{Sent}
use Rattle.wire.specs.Posted.{Posted, posted, new_frame}
use Rattle.carrier.specs.declared.faults.CarrierFault.{CarrierFault}
use Rattle.carrier.specs.Meaning.{Content, Meaning}
use Rattle.carrier.specs.Declines.{accepted_tests, frame_question}

-- what a desk accepted under an identity
abbrev pub accepted_reply : Meaning → ℕ → ℕ → ℕ → Result (Option Content) CarrierFault
accepted_reply m d o k = unless (first (accepted_tests m d o k)) (m.accepted d o k)

-- an answer with the bytes behind its reference
abbrev pub accepted_as : Result (Option (Bor (List ℕ))) CarrierFault → Result (Option Content) CarrierFault
accepted_as (Ok o) = Ok (option_copied o)
accepted_as (Err f) = Err f

-- the frame at a place; a frame of no desk stands in where there is none, and none is answered there
abbrev pub frame_reply : Meaning → ℕ → Result Posted CarrierFault
frame_reply m i = unless (first (frame_question m i)) (unwrap_or (slice_get m.wire i) (new_frame 0 Init 0 0 []))

-- an answer in plain values
abbrev pub frame_as : Group → Result Sent CarrierFault → Result Posted CarrierFault
frame_as g (Ok f) = Ok (posted (g.desks + item_size) f)
frame_as g (Err e) = Err e
