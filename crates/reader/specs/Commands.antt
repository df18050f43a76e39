-- The bytes of a command, and what is read at a position of a script. Assumes nothing.
use Rattle.std.specs.Prelude.{ℕ, ◌+◌, ◌*◌, ◌/◌, ◌%◌, cond, not, List, [], ◌∷◌, ◌++◌, length, Some, None, Ok, Err, Option, Result, nat_lt, slice_index}
use Rattle.std.specs.Int.{w32}
use Rattle.std.proofs.Common.{to_z, of_z}
use Rattle.desks.specs.Firsts.{Tests, first, unless}
use Rattle.reader.specs.declared.command.Stage.{Stage}
use Rattle.reader.specs.declared.command.Kind.{Kind}
use Rattle.reader.specs.declared.command.Kind.TheVariants as kind
use Rattle.reader.specs.declared.command.Command.{Command}
use Rattle.reader.specs.declared.command.Command.TheVariants.{Form, Opening, Open, Quiet, Close}
use Rattle.reader.specs.declared.faults.ScriptFault.{ScriptFault}
use Rattle.reader.specs.declared.faults.ScriptFault.TheVariants as fault
use Rattle.reader.specs.Kinds.{kind_of, allows}

-- two bytes, high byte first, and their value at a place: without the library's `to_be_bytes`, which cuts off what does not fit
abbrev pub two_bytes : ℕ → List ℕ
two_bytes n = n / 256 ∷ n % 256 ∷ []

abbrev pub two_at : List ℕ → ℕ → ℕ
two_at s p = slice_index s p * 256 + slice_index s (p + 1)

-- four bytes
abbrev pub four_bytes : ℕ → List ℕ
four_bytes n = two_bytes (n / 65536) ++ two_bytes (n % 65536)

abbrev pub four_at : List ℕ → ℕ → ℕ
four_at s p = two_at s p * 65536 + two_at s (p + 2)

-- the bytes of a command: its letter, then its operands
abbrev pub encode : Command → List ℕ
encode (Form f) =
    70 ∷ f.parameters.group.desks ∷ f.parameters.group.faults ∷ f.parameters.group.numbers ∷ f.parameters.factor ∷ f.book
    ∷ two_bytes f.parameters.group.faulty.bits
encode (Opening o) = 79 ∷ two_bytes o.figure ++ four_bytes (of_z w32 o.amount)
encode Open = 71 ∷ []
encode Quiet = 81 ∷ []
encode Close = 90 ∷ []

-- how many bytes the operands of a kind have
abbrev pub operand_bytes : Kind → ℕ
operand_bytes kind.Form = 7
operand_bytes kind.Opening = 6
operand_bytes kind.Open = 0
operand_bytes kind.Quiet = 0
operand_bytes kind.Close = 0

-- the command of a kind whose operands begin at a place
abbrev pub command_at : List ℕ → ℕ → Kind → Command
command_at s p kind.Form =
    Form
    (record {
      parameters = record { group = record { desks = slice_index s p; numbers = slice_index s (p + 2); faults = slice_index s (p + 1); faulty = record { bits = two_at s (p + 5) } }; factor = slice_index s (p + 3) };
      book = slice_index s (p + 4);
    })
command_at s p kind.Opening = Opening (record { figure = two_at s p; amount = to_z w32 (four_at s (p + 2)) })
command_at s p kind.Open = Open
command_at s p kind.Quiet = Quiet
command_at s p kind.Close = Close

-- why a command of a known kind is not read: it is not for the stage, or the script ends inside it
abbrev pub faults_of : List ℕ → ℕ → Stage → Kind → Tests ScriptFault
faults_of s p st k = (not (allows st k), fault.Stage p) ∷ (nat_lt (length s) (p + 1 + operand_bytes k), fault.Short p) ∷ []

abbrev pub read_kind : List ℕ → ℕ → Stage → Option Kind → Result (Option Command) ScriptFault
read_kind s p st None = Err (fault.Unknown p)
read_kind s p st (Some k) = unless (first (faults_of s p st k)) (Some (command_at s (p + 1) k))

-- what is read at a position: nothing at the end, a command, or why there is none
abbrev pub read : List ℕ → ℕ → Stage → Result (Option Command) ScriptFault
read s p st = cond (nat_lt p (length s)) (read_kind s p st (kind_of (slice_index s p))) (Ok None)

-- the position after that: past the command where one was read, and otherwise where it was
abbrev pub position_after : ℕ → Result (Option Command) ScriptFault → ℕ
position_after p (Ok None) = p
position_after p (Ok (Some c)) = p + length (encode c)
position_after p (Err f) = p
