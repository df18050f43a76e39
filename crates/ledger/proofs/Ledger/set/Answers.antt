-- The eight bytes are put into the cell of the figure.
use Rattle.std.proofs.Common.{◌≡◌, Bool, true, ap, rules}
use Rattle.std.specs.Result.{is_ok}
use Rattle.desks.specs.Firsts.{first}
use Rattle.desks.proofs.Passed.{unless_ok}
use Rattle.ledger.specs.Figures.{value_of}
use Rattle.ledger.specs.Faults.{place_tests}
use Rattle.ledger.specs.Changes.{Set}
use Rattle.ledger.proofs.Places.{over, placed, set_there}
use Rattle.ledger.proofs.Ledger.set.Goals as goal
use Rattle.ledger.proofs.Ledger.set.Goals.{After-put}

changed : (c : goal.After-put) (w : c.put.new.self.width ≡ 8) (r : Bool) → is_ok c.put.result ≡ r → Set c.args.self.now c.args.desk c.args.figure c.args.value r (over c.args.self.now c.put.new.self w)
changed c w r e =
    let l = c.args.self.now in
    let d = c.args.desk in
    let i = c.args.figure in
    let x = c.to_be_bytes.result in
    let p = unless_ok (first (place_tests l d i)) _ _ c.in_ok-place.ensures in
    let v : value_of x ≡ c.args.value = search rules in
    set_there l c.put.new.self w d i c.args.value x r (placed l d i p.0) (search rules) v (rw (p.1, e) at c.put.ensures.change)

pub returns-in_err-put-clause-change : goal.returns-in_err-put-clause-change
returns-in_err-put-clause-change c = let w = c.in_err-put.was in changed (goal.at.returns-in_err-put-clause-change c).After-put _ _ (search rules)

pub returns-clause-change : goal.returns-clause-change
returns-clause-change c = changed (goal.at.returns-clause-change c).After-put _ true (ap is_ok c.in_ok-put.was)
