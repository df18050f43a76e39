-- The day that a book, its faulty desks and its stage mean, and what it is to print lines. Assumes nothing.
use Rattle.std.specs.Prelude.{◌≡◌, List, ◌++◌, ℤ, Option, Result, OnOk}
use Rattle.std.specs.declared.vec.Vec.{Vec}
use Rattle.account.specs.declared.lines.Line.{Line}
use Rattle.book.specs.Model.{BookModel}
use Rattle.script.specs.declared.day.Day as code
use Rattle.script.specs.Days.{Day}

-- what a book that a script closes says of itself: what a book means, and its hedge need
abbrev pub DayModel : Type 0 → Type 1
DayModel B = record { model : BookModel B; needs : List ℤ → Option ℤ }

abbrev pub day_of : {B : Type 0} → DayModel B → code.Day B → Day
day_of m d = record {
  rules = m.model.rules (m.model.desks d.book);
  needs = m.needs;
  desks = m.model.desks d.book;
  faulty = d.faulty.bits;
  stage = d.stage;
  figures = m.model.figures d.book;
}

-- lines are added at the end, if memory does not run out
abbrev pub Prints : {E G : Type 0} → Vec Line G → List Line → Result (Unit {0}) E → Vec Line G → Type 0
Prints ls more r ls' = OnOk r (ls'.items ≡ ls.items ++ more)
