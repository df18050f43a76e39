-- Each turn settles one desk more.
use Rattle.std.proofs.Common.{◌∙◌, subst, w64}
use Rattle.std.proofs.lemmas.Int.{to_z-of_z}
use Rattle.ledger.specs.Changes.{SetAll}
use Rattle.ledger.proofs.Places.{upto_more, upto_all, shape_then}
use Rattle.ledger.proofs.Ledger.set_all.Goals as goal

pub loop-desk-preserved : goal.loop-desk-preserved
loop-desk-preserved c =
    let t = c.loop-desk.self in
    let i = c.loop-desk.invariant in
    let s = c.set.ensures.change in
    record { settled = upto_more _ t _ _ _ _ _ i.shape i.settled s; counts = s.counts ∙ i.counts; shape = shape_then _ t _ i.shape s.shape }

pub returns : goal.returns
returns c =
    let l = c.args.self.now in
    let t = c.loop-desk.self in
    let i = c.loop-desk.invariant in
    let v = to_z-of_z w64 c.args.value c.ranges.value in
    subst (λ v. SetAll l c.args.figure v t) v (upto_all l t c.args.figure _ c.loop-desk.desk c.loop-desk-test.false i.counts i.shape i.settled)
