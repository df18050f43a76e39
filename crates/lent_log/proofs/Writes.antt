-- What `replace` is shown from: an entry stands at the place, and the entries see the write there.
use lib.Seq.{take-set-lt}
use Rattle.std.proofs.lemmas.List.{length-set, length-take}
use Rattle.std.proofs.lemmas.Option.{slice_get_cases}
use Rattle.std.proofs.lemmas.Bool.Decides.{nat_tests}

pub ruleset entry_written = (nat_tests, length-set, length-take, take-set-lt, slice_get_cases)
