use Rattle.std.proofs.Common.{Some, ap, ◌∙◌}
use Rattle.script.proofs.Steps.{turned}
use Rattle.script.proofs.session.Session.play.Goals as goal

pub loop-day-preserved : goal.loop-day-preserved
loop-day-preserved g c = λ memory.
    turned memory c.loop-day.self c.fetch.new.self _ _ _ _ _ c.in-Some.is c.in_ok-offset.ensures.turn c.in_ok-offset.ensures.script
    c.in_ok-step.ensures.printed (ap (λ d. Some d) c.in_ok-step.ensures.after)
    ∙ c.loop-day.invariant memory
