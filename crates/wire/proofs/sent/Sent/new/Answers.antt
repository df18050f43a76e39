-- The content is laid over zeros, of which those that it leaves free stand.
use Rattle.std.proofs.Common.{◌-◌, ◌++◌, length, drop, replicate, ap, ◌∙◌}
use Rattle.std.proofs.lemmas.List.{drop-replicate}
use Rattle.wire.proofs.sent.Sent.new.Goals as goal

pub returns-clause-kept : goal.returns-clause-kept
returns-clause-kept c =
    let x = c.content-content.result.now in
    let laid = ap (λ y. y ++ drop (length x) (replicate 24 0)) c.copy_from_slice.ensures.after
    ∙ ap (λ y. x ++ y) (drop-replicate (length x) 24 0)
    ∙ ap (λ y. y ++ replicate (24 - length y) 0) c.content-content.ensures in
    λ i. record {
      sender = c.args.sender;
      kind = c.kind.ensures i;
      origin = c.origin.ensures i;
      number = c.number.ensures i;
      content = laid i;
      taken = record { bits = c.new.ensures i };
    }
