-- The number, layer and place of each fault of a frame. Assumes nothing.
use Rattle.desks.specs.declared.faults.Layer.TheVariants.{Frame}
use Rattle.desks.specs.declared.faults.Refusal.{Refusal}
use Rattle.frame.specs.declared.faults.FrameFault.{FrameFault}
use Rattle.frame.specs.declared.faults.FrameFault.TheVariants.{Length, Kind, Origin, Number, Stranger, Output}

abbrev pub frame_refusal : FrameFault → Refusal
frame_refusal (Length n) = record { number = 7; layer = Frame; place = n }
frame_refusal Kind = record { number = 8; layer = Frame; place = 0 }
frame_refusal Origin = record { number = 9; layer = Frame; place = 1 }
frame_refusal Number = record { number = 10; layer = Frame; place = 2 }
frame_refusal Stranger = record { number = 11; layer = Frame; place = 1 }
frame_refusal (Output needed) = record { number = 4; layer = Frame; place = needed }
