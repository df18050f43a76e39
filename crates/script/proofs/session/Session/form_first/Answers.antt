use Rattle.std.proofs.Common.{None, ◌∙◌, arith}
use Rattle.std.proofs.lemmas.Grind.{common_steps}
use Rattle.script.proofs.Steps.{turned}
use Rattle.script.proofs.session.Session.form_first.Goals as goal

pub returns-in-Ok-clause-turn : goal.returns-in-Ok-clause-turn
returns-in-Ok-clause-turn c = record {
  rest =
      turned c.args.memory c.loop-offset.self c.fetch.new.self _ None _ _ _ c.in-Some.is c.in_ok-offset.ensures.turn c.in_ok-offset.ensures.script (grind arith) (grind arith)
      ∙ c.loop-offset.invariant.1;
  desks = grind (arith, common_steps);
  memory_enough = grind (arith, common_steps);
}

pub loop-offset-preserved-in_default-reply : goal.loop-offset-preserved-in_default-reply
loop-offset-preserved-in_default-reply c = (
  c.in_ok-offset.ensures.script ∙ c.loop-offset.invariant.0,
  turned c.args.memory c.loop-offset.self c.fetch.new.self _ None None _ _ c.in-Some.is c.in_ok-offset.ensures.turn c.in_ok-offset.ensures.script (grind arith) (grind arith)
      ∙ c.loop-offset.invariant.1,
)
