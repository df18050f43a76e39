-- The number, layer and place of each fault of a book. Assumes nothing.
use Rattle.desks.specs.declared.faults.Layer.TheVariants.{Book}
use Rattle.desks.specs.declared.faults.Refusal.{Refusal}
use Rattle.desks.specs.Refusals.{form_refusal}
use Rattle.desks.specs.Sizes.{item_size}
use Rattle.book.specs.declared.faults.BookFault.{BookFault}
use Rattle.book.specs.declared.faults.BookFault.TheVariants.{Form, Desk, Figure, Malformed, Amount, NotAdmitted, Full}

abbrev pub book_refusal : BookFault → Refusal
book_refusal (Form f) = form_refusal Book f
book_refusal (Desk d) = record { number = 5; layer = Book; place = d }
book_refusal (Figure i) = record { number = 5; layer = Book; place = i }
book_refusal (Malformed offset) = record { number = 6; layer = Book; place = offset }
book_refusal Amount = record { number = 6; layer = Book; place = item_size }
book_refusal (NotAdmitted origin) = record { number = 25; layer = Book; place = origin }
book_refusal (Full d) = record { number = 30; layer = Book; place = d }
