use Rattle.std.proofs.Common.{refl, arith}
use Rattle.cash.specs.Laws.{cash_lawful}
use Rattle.cash.proofs.Balances.{keeps_sum, pays_to_the_last}
use Rattle.cash.specs.Model.{cash_sound}
use Rattle.cash.proofs.limit.Goals as goal

pub returns : goal.returns
returns c = record {
  value = refl;
  sound = cash_sound;
  lawful = cash_lawful;
  keeps_sum = keeps_sum;
  pays_out = pays_to_the_last;
  sample = record {
    first_fits = record { origin = omega arith; size = refl; figures = refl };
    second_fits = record { origin = omega arith; size = refl; figures = refl };
    first_admitted = refl;
    second_admitted = refl;
    not_admitted = refl;
    both = refl;
  };
}
