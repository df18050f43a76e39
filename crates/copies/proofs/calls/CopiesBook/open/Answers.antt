use Rattle.std.proofs.Common.{◌≡◌, ◌*◌, ◌≤◌, set, nat_abs, None, ap, ◌∙◌, subst, w32, w64, to_z, of_z, SFits, rules}
use Rattle.desks.specs.Firsts.{first}
use Rattle.desks.proofs.Passed.{done, unless_ok, none_holds}
use Rattle.book.specs.Model.{most_items}
use Rattle.book.specs.Calls.{opening_tests}
use Rattle.ledger.specs.Figures.{figures}
use Rattle.ledger.proofs.Listed.{figures_set_all}
use Rattle.ledger.proofs.Bounds.{within_set_all, counted_set_all, same_count}
use Rattle.copies.proofs.Entering.{same_behind}
use Rattle.book.proofs.Orders.{widened}
use Rattle.copies.specs.Entries.{openings_of, range_tests}
use Rattle.copies.proofs.Carry.{still_sized}
use Rattle.copies.proofs.calls.CopiesBook.open.Goals as goal
use Rattle.copies.proofs.calls.CopiesBook.open.Goals.{After-set_all}

fits : (g : _) (c : goal.After-set_all g) → SFits w32 c.args.opening.amount
fits g c = search rules

-- the opening was checked
allowed : (g : _) (c : goal.After-set_all g) → first (opening_tests (g.E.Entry.model.rules c.args.self.now.ledger.desks) c.args.opening.figure c.args.opening.amount) ≡ None
allowed g c =
    subst (λ r. first (range_tests r c.args.opening.figure c.args.opening.amount) ≡ None) (c.openings.ensures ∙ ap (λ n. openings_of (g.E.Entry.model.rules n)) c.desks.ensures)
    (unless_ok (first (range_tests c.openings.result c.args.opening.figure c.args.opening.amount)) _ _ c.in_ok-check.ensures).0

amount : (g : _) (c : goal.After-set_all g) → to_z w64 (of_z w64 c.from.result) ≡ c.args.opening.amount
amount g c = ap (λ y. to_z w64 (of_z w64 y)) c.from.ensures ∙ widened c.args.opening.amount (fits g c)

pub invariant_of-self : goal.invariant_of-self
invariant_of-self g c =
    let m = g.E.Entry.model in
    let b = c.args.self.now in
    let p = c.set_all.ensures in
    let small : nat_abs c.args.opening.amount ≤ m.opening = (m.ruled b.ledger.desks).opens c.args.opening.amount (none_holds (opening_tests (m.rules b.ledger.desks) c.args.opening.figure c.args.opening.amount) (allowed g c) 1) in
    record {
      whole = p.shape.whole b.whole;
      sized = still_sized m b.ledger _ p.shape b.sized;
      counted = counted_set_all most_items _ _ _ _ p b.counted;
      within = within_set_all m.opening m.step _ _ _ _ p (rw (amount g c) small) b.within;
    }

pub returns : goal.returns
returns g c =
    let m = g.E.Entry.model in
    let b = c.args.self.now in
    let p = c.set_all.ensures in
    let a = (goal.at.returns g c).After-set_all in
    done _ _ _ _ (allowed g a) (record {
      desks = p.shape.desks;
      figures = λ d. figures_set_all _ _ _ _ p b.whole d ∙ ap (set (figures b.ledger d) c.args.opening.figure) (amount g a);
      count = λ d. same_count b.ledger c.set_all.new.self d p.counts p.shape.desks;
      memory = p.shape.size;
      behind = same_behind b.ledger c.set_all.new.self (m.bytes b.ledger.desks) p.shape (ap (λ y. b.ledger.desks * y * 8) b.sized.1 ∙ m.sized b.ledger.desks);
    })
