use Rattle.std.proofs.Common.{arith}
use Rattle.std.proofs.lemmas.Grind.{common_steps}
use Rattle.std.proofs.lemmas.Result.{IfOk-weaker}
use Rattle.script.proofs.Alike.{shown_alike}
use Rattle.script.proofs.whole.account_text.Goals as goal

pub returns-in_err-memory-clause-alike : goal.returns-in_err-memory-clause-alike
returns-in_err-memory-clause-alike c = shown_alike _ _

pub returns-in_err-lines-clause-alike : goal.returns-in_err-lines-clause-alike
returns-in_err-lines-clause-alike c = shown_alike _ _

pub returns-clause-alike : goal.returns-clause-alike
returns-clause-alike c = shown_alike _ _

pub returns-clause-text : goal.returns-clause-text
returns-clause-text c = IfOk-weaker c.print.result _ _ (λ text e. grind (arith, common_steps, e)) c.print.ensures
