use Rattle.std.proofs.Common.{refl, rules}
use Rattle.script.proofs.Steps.{fetched}
use Rattle.script.proofs.session.Session.fetch.Goals as goal

pub returns-in-Ok-clause-turn : goal.returns-in-Ok-clause-turn
returns-in-Ok-clause-turn c = fetched c.args.self.now _ c.args.stage c.in-Ok.found c.map.result (search rules) c.in-Ok.ensures.answer c.in-Ok.ensures.position refl
