use Rattle.std.proofs.Common.{replicate, pos, ap, ◌∙◌}
use Rattle.ledger.proofs.Listed.{figures_made}
use Rattle.copies.proofs.calls.CopiesBook.make.Goals as goal

pub returns : goal.returns
returns g c =
    let m = c.new.ensures in
    record {
      desks = m.desks;
      figures = λ d h. figures_made _ _ _ _ m d h ∙ ap (λ w. replicate w (pos 0)) c.width.ensures;
      count = m.counts;
      cleared = m.zero;
    }
