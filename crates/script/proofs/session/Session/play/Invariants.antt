use Rattle.std.proofs.Common.{◌≡◌, ℕ, ◌-◌, length, Some}
use Rattle.script.specs.Meaning.{day_of}
use Rattle.script.specs.Turns.{whole_account}
use Rattle.script.proofs.session.Session.play.Given as goal

-- what was printed, and what is left to print, are what was to be printed
abbrev pub invariant-loop-day : goal.invariant-loop-day
invariant-loop-day g l =
    (memory : ℕ) →
    whole_account memory l.self (Some (day_of (record { model = g.B.Book.model; needs = g.B.DayBook.needs }) l.day))
    ≡ whole_account memory l.initial.self (Some (day_of (record { model = g.B.Book.model; needs = g.B.DayBook.needs }) l.initial.day))

abbrev pub decreases-loop-day : goal.decreases-loop-day
decreases-loop-day g l = length l.self.reader.script.now - l.self.reader.position
