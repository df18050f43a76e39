use Rattle.std.proofs.Common.{◌≡◌, true, false, ltb, refl, rules}
use Rattle.std.proofs.lemmas.Bool.{false≢true}
use Rattle.desks.specs.Sets.{beyond}
use Rattle.desks.proofs.Bits.{reaches_is, none_past}
use Rattle.desks.proofs.set.DeskSet.reaches.Goals as goal

pub returns-then-desks-lt16 : goal.returns-then-desks-lt16
unfolding beyond
returns-then-desks-lt16 c =
    let l : ltb c.args.desks 16 ≡ true = search rules in
    record {
      value = rw l refl;
      meaning = reaches_is c.args.self.bits c.args.desks (search rules) (search rules);
    }

pub returns-else-desks-lt16 : goal.returns-else-desks-lt16
unfolding beyond
returns-else-desks-lt16 c =
    let l : ltb c.args.desks 16 ≡ false = search rules in
    record {
      value = rw l refl;
      meaning = rw l (λ e. absurd (false≢true e), λ x. absurd (none_past c.args.self.bits c.args.desks (search rules) x));
    }
