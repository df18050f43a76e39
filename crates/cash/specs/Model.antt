-- What a value of cash means: the figures and counts in its ledger. Assumes nothing.
use Rattle.ledger.specs.Figures.{count_at, figures}
use Rattle.book.specs.Model.{BookModel, Sound}
use Rattle.copies.specs.declared.entry.Entry.{Ghosts}
use Rattle.copies.specs.declared.table.Copies.{Copies}
use Rattle.copies.specs.Model.{copies_sound, copies_model}
use Rattle.cash.specs.declared.payment.Payment.{Payment}
use Rattle.cash.specs.Cash.{cash, balance_limit}
use Rattle.cash.specs.Entries.{payments}

abbrev pub kind : Ghosts Payment
kind = record { model = payments }

abbrev pub Cash : Type 0
Cash = Copies Payment kind

-- at every value each desk has the figures of the rules, none beyond the limit, and no more items than it may have
abbrev pub AllSound : Type 0
AllSound = (b : Cash) → Sound (cash b.ledger.desks) balance_limit b.ledger.desks (figures b.ledger) (count_at b.ledger)

pub cash_sound : AllSound
cash_sound = copies_sound kind

abbrev pub cash_model : BookModel Cash
cash_model = copies_model kind
