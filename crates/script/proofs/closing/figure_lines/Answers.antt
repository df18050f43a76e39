use Rattle.std.proofs.Common.{◌≡◌, get_or, pos, vec_items, ap, ◌∙◌, arith, w64, SFits, rules}
use Rattle.std.proofs.lemmas.Grind.{common_steps}
use Rattle.std.proofs.lemmas.Int.{to_z-of_z}
use Rattle.script.specs.Days.{figure_line}
use Rattle.script.proofs.Each.{turn_by, asked}
use Rattle.script.proofs.closing.figure_lines.Goals as goal

pub loop-figure-preserved : goal.loop-figure-preserved
loop-figure-preserved g c =
    let f : SFits w64 c.unwrap_or-value.result = search rules in
    let v : c.unwrap_or-value.result ≡ get_or (g.B.Book.model.figures c.args.book.now c.args.desk) c.loop-figure.figure (pos 0) = grind (arith, common_steps, asked g.B.Book.model c.args.book.now c.args.desk c.loop-figure.figure) in
    turn_by (vec_items c.args.lines.now) (vec_items c.loop-figure.lines) (vec_items c.note.new.lines) _
    (λ i. figure_line c.args.desk i (get_or (g.B.Book.model.figures c.args.book.now c.args.desk) i (pos 0))) c.loop-figure.figure
    c.loop-figure.invariant c.in_ok-note.ensures
    (c.figure_line.ensures ∙ ap (figure_line c.args.desk c.loop-figure.figure) (to_z-of_z w64 c.unwrap_or-value.result f ∙ v))
