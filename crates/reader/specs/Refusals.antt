-- The number, layer and place of each fault of a script. Assumes nothing.
use Rattle.desks.specs.declared.faults.Layer.TheVariants.{Script}
use Rattle.desks.specs.declared.faults.Refusal.{Refusal}
use Rattle.floor.specs.Refusals.{floor_refusal}
use Rattle.reader.specs.declared.faults.ScriptFault.{ScriptFault}
use Rattle.reader.specs.declared.faults.ScriptFault.TheVariants.{Unknown, Stage, Short, Floor}

abbrev pub script_refusal : ScriptFault → Refusal
script_refusal (Unknown offset) = record { number = 12; layer = Script; place = offset }
script_refusal (Stage offset) = record { number = 13; layer = Script; place = offset }
script_refusal (Short offset) = record { number = 14; layer = Script; place = offset }
script_refusal (Floor f) = floor_refusal f
