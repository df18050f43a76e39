-- What a value of positions means: the figures and counts in its ledger. Assumes nothing.
use Rattle.ledger.specs.Figures.{count_at, figures}
use Rattle.book.specs.Model.{BookModel, Sound}
use Rattle.copies.specs.declared.entry.Entry.{Ghosts}
use Rattle.copies.specs.declared.table.Copies.{Copies}
use Rattle.copies.specs.Model.{copies_sound, copies_model}
use Rattle.positions.specs.declared.trade.Trade.{Trade}
use Rattle.positions.specs.Positions.{positions, position_limit}
use Rattle.positions.specs.Entries.{trades}

abbrev pub kind : Ghosts Trade
kind = record { model = trades }

abbrev pub Positions : Type 0
Positions = Copies Trade kind

-- at every value each desk has the figures of the rules, none beyond the limit, and no more items than it may have
abbrev pub AllSound : Type 0
AllSound = (b : Positions) → Sound (positions b.ledger.desks) position_limit b.ledger.desks (figures b.ledger) (count_at b.ledger)

pub positions_sound : AllSound
positions_sound = copies_sound kind

abbrev pub positions_model : BookModel Positions
positions_model = copies_model kind
