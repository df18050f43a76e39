-- The laws of positions, shown of its rules. Assumes nothing.
use Rattle.std.specs.Prelude.{ℕ}
use Rattle.std.proofs.Common.{◌∙◌}
use Rattle.desks.specs.Firsts.{first}
use Rattle.book.specs.Rules.{Laws, at_place}
use Rattle.book.proofs.Shifts.{length_shifted, either_order}
use Rattle.book.proofs.Orders.{none_from}
use Rattle.positions.specs.Trades.{lots, wrong_fields, target}
use Rattle.positions.specs.Positions.{positions}

pub positions_lawful : (n : ℕ) → Laws n (positions n)
positions_lawful n = record {
  well_formed = λ o x f fit a. none_from (first (wrong_fields x)) a;
  keeps_width = λ o x f fit a. length_shifted f (at_place (target x) (lots x)) ∙ fit.figures;
  still_admitted = λ o p x y f fit fit' ne a a'. a';
  either_order = λ o p x y f fit fit' ne a a'. either_order f (at_place (target x) (lots x)) (at_place (target y) (lots y));
}
