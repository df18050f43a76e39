-- The kinds of commands: their letters, and the stages that they are for. Assumes nothing.
use Rattle.std.specs.Prelude.{ℕ, Bool, true, false, cond, Some, None, Option, ◌==◌}
use Rattle.reader.specs.declared.command.Stage.{Stage}
use Rattle.reader.specs.declared.command.Stage.TheVariants.{Unformed, Set, Closed}
use Rattle.reader.specs.declared.command.Stage.TheVariants as stage
use Rattle.reader.specs.declared.command.Kind.{Kind}
use Rattle.reader.specs.declared.command.Kind.TheVariants.{Form, Opening, Open, Quiet, Close}

-- the kind of a letter: F, O, G, Q or Z
abbrev pub kind_of : ℕ → Option Kind
kind_of b =
    cond (b == 70) (Some Form)
    (cond (b == 79) (Some Opening) (cond (b == 71) (Some Open) (cond (b == 81) (Some Quiet) (cond (b == 90) (Some Close) None))))

-- one answer for each stage
abbrev pub by_stage : Bool → Bool → Bool → Bool → Stage → Bool
by_stage unformed set open' closed Unformed = unformed
by_stage unformed set open' closed Set = set
by_stage unformed set open' closed stage.Open = open'
by_stage unformed set open' closed Closed = closed

-- whether a stage allows a kind
abbrev pub allows : Stage → Kind → Bool
allows s Form = by_stage true false false false s
allows s Opening = by_stage false true false false s
allows s Open = by_stage false true false false s
allows s Quiet = by_stage false false true true s
allows s Close = by_stage false false true false s
