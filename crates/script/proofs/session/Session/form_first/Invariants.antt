use Rattle.std.proofs.Common.{◌≡◌, ◌-◌, length, None}
use Rattle.script.specs.Turns.{whole_account}
use Rattle.script.proofs.session.Session.form_first.Given as goal

-- what was printed, and what is left to print, are what was to be printed
abbrev pub invariant-loop-offset : goal.invariant-loop-offset
invariant-loop-offset l =
    (l.self.reader.script ≡ l.initial.self.reader.script) × (whole_account l.memory l.self None ≡ whole_account l.memory l.initial.self None)

abbrev pub decreases-loop-offset : goal.decreases-loop-offset
decreases-loop-offset l = length l.self.reader.script.now - l.self.reader.position
