-- The number, layer and place of each fault of forming, and the letters of the layers. Assumes nothing.
use Rattle.std.specs.Prelude.{ℕ}
use Rattle.desks.specs.declared.faults.Layer.{Layer}
use Rattle.desks.specs.declared.faults.Layer.TheVariants.{Frame, Carrier, Book, Floor, Script}
use Rattle.desks.specs.declared.faults.Refusal.{Refusal}
use Rattle.desks.specs.declared.faults.Parameter.{Parameter}
use Rattle.desks.specs.declared.faults.Parameter.TheVariants.{Desks, Numbers, Faults, Factor, BookCode}
use Rattle.desks.specs.declared.faults.FormFault.{FormFault}
use Rattle.desks.specs.declared.faults.FormFault.TheVariants.{Range, Resilience, FaultySet, Memory}

-- the letter of a layer, in ASCII
abbrev pub letter_of : Layer → ℕ
letter_of Frame = 70
letter_of Carrier = 67
letter_of Book = 66
letter_of Floor = 68
letter_of Script = 83

-- the place of a parameter
abbrev pub place_of : Parameter → ℕ
place_of Desks = 0
place_of Numbers = 1
place_of Faults = 2
place_of Factor = 3
place_of BookCode = 4

-- what a fault of forming says, as a layer
abbrev pub form_refusal : Layer → FormFault → Refusal
form_refusal l (Range p) = record { number = 1; layer = l; place = place_of p }
form_refusal l (Resilience t) = record { number = 2; layer = l; place = t }
form_refusal l (FaultySet size) = record { number = 3; layer = l; place = size }
form_refusal l (Memory needed) = record { number = 4; layer = l; place = needed }
