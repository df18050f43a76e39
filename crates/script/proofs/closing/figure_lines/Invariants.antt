use Rattle.std.proofs.Common.{◌≡◌, ◌++◌, get_or, pos, vec_items}
use Rattle.script.specs.Days.{each, figure_line}
use Rattle.script.proofs.closing.figure_lines.Given as goal

abbrev pub invariant-loop-figure : goal.invariant-loop-figure
invariant-loop-figure g l =
    vec_items l.lines
    ≡ vec_items l.initial.lines ++ each (λ i. figure_line l.desk i (get_or (g.B.Book.model.figures l.book l.desk) i (pos 0))) l.figure
