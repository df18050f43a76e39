use Rattle.std.proofs.Common.{refl}
use Rattle.positions.specs.Laws.{positions_lawful}
use Rattle.positions.proofs.NetLimit.{net_limit_parts}
use Rattle.positions.specs.Model.{positions_sound}
use Rattle.positions.proofs.limit.Goals as goal

pub returns : goal.returns
returns c = record {
  value = refl;
  sound = positions_sound;
  lawful = positions_lawful;
  net_limit = net_limit_parts;
  sample = λ n. record {
    first_fits = λ h. record { origin = h; size = refl; figures = refl };
    second_fits = λ h. record { origin = h; size = refl; figures = refl };
    first_admitted = refl;
    second_admitted = refl;
    filled = refl;
    covered = refl;
    needed = refl;
  };
}
