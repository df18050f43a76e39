-- The number, layer and place of each fault of a floor. Assumes nothing.
use Rattle.desks.specs.declared.faults.Layer.TheVariants.{Floor}
use Rattle.desks.specs.declared.faults.Refusal.{Refusal}
use Rattle.desks.specs.Refusals.{form_refusal}
use Rattle.book.specs.Refusals.{book_refusal}
use Rattle.floor.specs.declared.faults.FloorFault.{FloorFault}
use Rattle.floor.specs.declared.faults.FloorFault.TheVariants.{Form, Book}

abbrev pub floor_refusal : FloorFault → Refusal
floor_refusal (Form f) = form_refusal Floor f
floor_refusal (Book f) = book_refusal f
