-- What the reader keeps, in the words of scripts: a command and its bytes determine each other. Assumes nothing.
use Rattle.std.specs.Prelude.{◌≡◌, ℕ, ◌+◌, ◌^◌, ◌<◌, ◌≤◌, true, List, length, take, drop, Some, None, Ok, Err, Option, Result, FitsSigned}
use Rattle.std.specs.Int.{w32}
use Rattle.reader.specs.declared.command.Stage.{Stage}
use Rattle.reader.specs.declared.command.Kind.{Kind}
use Rattle.reader.specs.declared.command.Kind.TheVariants as kind
use Rattle.reader.specs.declared.command.Forming.{Forming}
use Rattle.book.specs.declared.item.Opening as opening
use Rattle.reader.specs.declared.command.Command.{Command}
use Rattle.reader.specs.declared.command.Command.TheVariants.{Form, Opening, Open, Quiet, Close}
use Rattle.reader.specs.declared.faults.ScriptFault.{ScriptFault}
use Rattle.reader.specs.declared.faults.ScriptFault.TheVariants as fault
use Rattle.reader.specs.Kinds.{allows}
use Rattle.reader.specs.Commands.{encode}

-- the fields of a form command fit their bytes
pub record FormFits (f : Forming) : Type 0 where
  pub desks : f.parameters.group.desks < 256
  pub faults : f.parameters.group.faults < 256
  pub numbers : f.parameters.group.numbers < 256
  pub factor : f.parameters.factor < 256
  pub book : f.book < 256
  pub faulty : f.parameters.group.faulty.bits < 2 ^ 16

-- those of an opening command
pub record OpeningFits (o : opening.Opening) : Type 0 where
  pub figure : o.figure < 2 ^ 16
  pub amount : FitsSigned w32 o.amount

abbrev pub Fitting : Command → Type 0
Fitting (Form f) = FormFits f
Fitting (Opening o) = OpeningFits o
Fitting Open = Unit {0}
Fitting Quiet = Unit {0}
Fitting Close = Unit {0}

abbrev pub kind_of_command : Command → Kind
kind_of_command (Form f) = kind.Form
kind_of_command (Opening o) = kind.Opening
kind_of_command Open = kind.Open
kind_of_command Quiet = kind.Quiet
kind_of_command Close = kind.Close

-- a command stands at a position of a script: the stage allows it, its fields fit, and the bytes there are its bytes
pub record Stands (s : List ℕ) (p : ℕ) (st : Stage) (c : Command) : Type 0 where
  pub allowed : allows st (kind_of_command c) ≡ true
  pub fits : Fitting c
  pub bytes : take (length (encode c)) (drop p s) ≡ encode c

-- a command that is read stands at the position, which moves past its bytes
abbrev pub ReadsWhatStands : List ℕ → ℕ → Stage → Result (Option Command) ScriptFault → ℕ → Type 0
ReadsWhatStands s p st r after = (c : Command) → r ≡ Ok (Some c) → Stands s p st c × (after ≡ p + length (encode c))

-- a command that stands at the position is read
abbrev pub WhatStandsIsRead : List ℕ → ℕ → Stage → Result (Option Command) ScriptFault → Type 0
WhatStandsIsRead s p st r = (c : Command) → Stands s p st c → r ≡ Ok (Some c)

-- with each command that is read the position moves on, and stays inside the script
abbrev pub MovesInside : List ℕ → ℕ → Result (Option Command) ScriptFault → ℕ → Type 0
MovesInside s p r after = (c : Command) → r ≡ Ok (Some c) → (p < after) × (after ≤ length s)

-- the offset that a fault of reading names
abbrev pub offset_of : ScriptFault → Option ℕ
offset_of (fault.Unknown p) = Some p
offset_of (fault.Stage p) = Some p
offset_of (fault.Short p) = Some p
offset_of (fault.Floor f) = None

-- a fault names the command's first byte, where the position stays
abbrev pub FaultStays : ℕ → Result (Option Command) ScriptFault → ℕ → Type 0
FaultStays p r after = (f : ScriptFault) → r ≡ Err f → (offset_of f ≡ Some p) × (after ≡ p)
