-- What every carrier declines, in order: the first test that holds decides. Assumes nothing.
use Rattle.std.specs.Prelude.{ℕ, ◌+◌, Bool, not, List, [], ◌∷◌, ◌++◌, length, ◌==◌, nat_le, nat_lt}
use Rattle.desks.specs.declared.group.Group.{Group}
use Rattle.desks.specs.declared.faults.Parameter.TheVariants.{Desks, Numbers}
use Rattle.desks.specs.declared.faults.FormFault.{FormFault}
use Rattle.desks.specs.declared.faults.FormFault.TheVariants.{Range, Memory}
use Rattle.desks.specs.Firsts.{Tests, tests_above}
use Rattle.desks.specs.Forming.{outside, out_of_range, ranges, bounds, parameters_under}
use Rattle.desks.specs.Sizes.{item_size}
use Rattle.frame.specs.declared.kinds.Kinds.{Kinds}
use Rattle.frame.specs.declared.faults.FrameFault.TheVariants.{Length, Origin, Number}
use Rattle.frame.specs.Readings.{frame_tests}
use Rattle.carrier.specs.declared.faults.CarrierFault.{CarrierFault}
use Rattle.carrier.specs.declared.faults.CarrierFault.TheVariants.{Form, Desk, Frame, Faulty, CorrectPeer, NoNumber, NoRoom, NoFrame}
use Rattle.carrier.specs.Meaning.{Content, Meaning, faulty}

-- the bytes needed: desks and numbers are in their ranges
abbrev pub size_tests : ℕ → ℕ → Tests CarrierFault
size_tests n s = (out_of_range Desks n, Form (Range Desks)) ∷ (out_of_range Numbers s, Form (Range Numbers)) ∷ []

-- making, on so many bytes of memory where `needed` are needed
abbrev pub form_tests : ℕ → ℕ → Group → ℕ → Tests FormFault
form_tests factor needed g memory =
    ranges (parameters_under factor g) ++ bounds (parameters_under factor g) ++ (nat_lt memory needed, Memory needed) ∷ []

-- the desk is there
abbrev pub no_desk : Group → ℕ → Bool × CarrierFault
no_desk g d = (nat_le g.desks d, Desk d)

-- the desk is correct
abbrev pub no_correct : Group → ℕ → Bool × CarrierFault
no_correct g d = (faulty g d, Faulty d)

-- the most frames that a desk sends when it receives one
abbrev pub most_sent : ℕ
most_sent = 2

-- there is room for what a desk that receives may send
abbrev pub no_room : Meaning → Bool × CarrierFault
no_room m = (nat_lt m.places (length m.wire + most_sent), NoRoom (length m.wire))

abbrev pub offer_tests : Meaning → ℕ → Content → Tests CarrierFault
offer_tests m d c =
    no_desk m.group d
    ∷ (not (length c == m.group.desks + item_size), Frame (Length (length c)))
    ∷ no_correct m.group d
    ∷ (nat_le m.group.numbers (length (m.offered d)), NoNumber d)
    ∷ (nat_le m.places (length m.wire), NoRoom (length m.wire))
    ∷ []

abbrev pub take_tests : Meaning → ℕ → ℕ → Tests CarrierFault
take_tests m i d =
    no_desk m.group d ∷ no_correct m.group d ∷ no_room m ∷ (nat_le (length m.wire) i, NoFrame i) ∷ []

-- bytes as from a peer, at a carrier that knows those kinds
abbrev pub feign_tests : Kinds → Meaning → ℕ → ℕ → List ℕ → Tests CarrierFault
feign_tests ks m p d bytes =
    no_desk m.group p
    ∷ no_desk m.group d
    ∷ tests_above Frame (frame_tests bytes m.group.desks m.group.numbers ks p)
    ++ no_correct m.group d ∷ (not (faulty m.group p), CorrectPeer p) ∷ no_room m ∷ []

-- the question for an accepted content
abbrev pub accepted_tests : Meaning → ℕ → ℕ → ℕ → Tests CarrierFault
accepted_tests m d o k =
    no_desk m.group d
    ∷ (nat_le m.group.desks o, Frame Origin)
    ∷ (outside 1 m.group.numbers k, Frame Number)
    ∷ no_correct m.group d
    ∷ []

-- the question for a frame
abbrev pub frame_question : Meaning → ℕ → Tests CarrierFault
frame_question m i = (nat_le (length m.wire) i, NoFrame i) ∷ []
