-- Two fills of 10,000 lots under a limit of 10,000 on the net.
use Rattle.std.proofs.Common.{ℕ, ◌<◌, replicate, pos, refl, arith}
use Rattle.std.proofs.lemmas.Bool.{false≢true}
use Rattle.book.specs.Rules.{Fit}
use Rattle.positions.specs.Positions.{figures_of_a_desk}
use Rattle.positions.specs.Netted.{netted, large_fill, NetLimitParts}

fits : (n o : ℕ) → o < n → Fit n (netted 10000 n) o large_fill (replicate figures_of_a_desk (pos 0))
fits n o h = record { origin = h; size = refl; figures = refl }

pub net_limit_parts : (n : ℕ) → NetLimitParts n
net_limit_parts n = record {
  first_admitted = refl;
  second_admitted = refl;
  shut_out = refl;
  unlawful = λ h law. false≢true (law 0 1 large_fill large_fill (replicate figures_of_a_desk (pos 0)) (fits n 0 (omega arith)) (fits n 1 (omega arith)) (λ e. omega (arith, e)) refl refl);
}
