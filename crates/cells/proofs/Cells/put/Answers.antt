-- The copy into the part is the paste that `written` speaks of.
use Rattle.std.proofs.Common.{◌≡◌, ◌-◌, length, refl, ap, ◌∙◌, sym, arith}
use lib.Seq.{paste}
use Rattle.std.specs.Result.{result_ok}
use Rattle.std.proofs.lemmas.Slice.{put_mid-paste}
use Rattle.std.proofs.lemmas.Option.{cond_some}
use Rattle.cells.specs.Cell.{there}
use Rattle.cells.proofs.Known.{written}
use Rattle.cells.proofs.Cells.put.Goals as goal

pub returns-clause-change : goal.returns-clause-change
returns-clause-change c =
    let a = c.args.self.now in
    let x = c.args.x.now in
    let r = c.in_ok-range.range in
    let s = cond_some (there a c.args.i) _ r (sym c.range.ensures ∙ c.ok_or.ensures.ok_part ∙ ap result_ok c.in_ok-range.was) in
    let f = ap (λ y. y.start) s.1 in
    let t = ap (λ y. y.end) s.1 in
    let l : length x ≡ a.width = omega arith in
    let p = put_mid-paste r.start (r.end - r.start) a.bytes.now c.copy_from_slice.new.self x a.width c.copy_from_slice.ensures.after (omega arith) (omega arith) in
    written a _ c.args.i x s.0 l refl refl (p ∙ ap (λ n. paste a.bytes.now n x a.width) (sym f))
