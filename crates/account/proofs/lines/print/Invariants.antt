use Rattle.std.proofs.Common.{◌≡◌, take, string_bytes}
use Rattle.account.specs.Text.{account}
use Rattle.account.proofs.lines.print.Given as goal

abbrev pub invariant-loop-line : goal.invariant-loop-line
invariant-loop-line l = string_bytes l.text ≡ account (take l.line-index l.lines)
