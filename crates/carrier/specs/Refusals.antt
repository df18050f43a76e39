-- The number, layer and place of each fault of a carrier. Assumes nothing.
use Rattle.desks.specs.declared.faults.Layer.TheVariants.{Carrier}
use Rattle.desks.specs.declared.faults.Refusal.{Refusal}
use Rattle.desks.specs.Refusals.{form_refusal}
use Rattle.frame.specs.Refusals.{frame_refusal}
use Rattle.carrier.specs.declared.faults.CarrierFault.{CarrierFault}
use Rattle.carrier.specs.declared.faults.CarrierFault.TheVariants.{Form, Desk, Frame, Faulty, CorrectPeer, NoNumber, NoRoom, NoFrame, Second}

abbrev pub carrier_refusal : CarrierFault → Refusal
carrier_refusal (Form f) = form_refusal Carrier f
carrier_refusal (Desk d) = record { number = 5; layer = Carrier; place = d }
carrier_refusal (Frame f) = frame_refusal f
carrier_refusal (Faulty d) = record { number = 21; layer = Carrier; place = d }
carrier_refusal (CorrectPeer p) = record { number = 22; layer = Carrier; place = p }
carrier_refusal (NoNumber d) = record { number = 23; layer = Carrier; place = d }
carrier_refusal (NoRoom held) = record { number = 26; layer = Carrier; place = held }
carrier_refusal (NoFrame i) = record { number = 27; layer = Carrier; place = i }
carrier_refusal (Second o) = record { number = 28; layer = Carrier; place = o }
