use Rattle.std.proofs.Common.{◌≡◌, ◌++◌, vec_items}
use Rattle.script.specs.Days.{each, by_correct}
use Rattle.script.proofs.day.Day.show.Given as goal

abbrev pub invariant-loop-desk : goal.invariant-loop-desk
invariant-loop-desk g l =
    vec_items l.lines ≡ vec_items l.initial.lines ++ each (by_correct l.self.faulty.bits (g.P.Part.lines_of l.self.book)) l.desk
