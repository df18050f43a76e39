use Rattle.std.proofs.Common.{refl}
use Rattle.quorum.specs.DoubleEcho.{double_echo}
use Rattle.quorum.specs.Network.{LawfulEverywhere}
use Rattle.quorum.proofs.EchoLaws.{laws}
use Rattle.quorum.proofs.EchoKept.{reached_sound}
use Rattle.quorum.proofs.Identities.{lift}
use Rattle.quorum.proofs.Bound.{bounded}
use Rattle.quorum.proofs.RunsReach.{runs_reach}
use Rattle.quorum.proofs.double_echo_factor.Goals as goal

everywhere : {C : Type 0} → LawfulEverywhere (double_echo {C = C}) 3
everywhere = lift double_echo 3 (λ S F enough s h. laws S F enough s (reached_sound S F enough s h))

pub returns-clause-lawful : goal.returns-clause-lawful
returns-clause-lawful g c = everywhere

pub returns-clause-bounded : goal.returns-clause-bounded
returns-clause-bounded g c = bounded double_echo 3 everywhere

pub returns-clause-reaches : goal.returns-clause-reaches
returns-clause-reaches g c = runs_reach

pub returns-clause-sample : goal.returns-clause-sample
returns-clause-sample g c = record { at_0 = refl; at_1 = refl; at_2 = refl; frames = refl }
