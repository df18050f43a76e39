-- One look at a script: a command to carry out, or its end; and the way to a floor that is formed. Assumes nothing.
use Rattle.std.specs.Prelude.{◌≡◌, ℕ, ◌+◌, ◌<◌, ◌≤◌, false, List, ◌++◌, length, Some, None, Ok, Option}
use Rattle.desks.specs.Forming.{outside}
use Rattle.floor.specs.Forming.{bytes_of}
use Rattle.reader.specs.declared.command.Stage.{Stage}
use Rattle.reader.specs.declared.command.Command.{Command}
use Rattle.reader.specs.Commands.{encode, read}
use Rattle.account.specs.declared.lines.Line.{Line}
use Rattle.script.specs.declared.form.Formed.{Formed}
use Rattle.script.specs.declared.session.Session.{Session}
use Rattle.script.specs.Days.{State, stage_of, formed, lines_from}

-- what a session prints from a state on, behind what it printed
abbrev pub whole_account : ℕ → Session → State → List Line
whole_account memory a st = a.lines.items ++ lines_from memory a.reader.script.now a.reader.position st

-- a command was read at the session's position, and nothing was printed
pub record Found (st : Stage) (a : Session) (found : ℕ × Command) (b : Session) : Type 0 where
  pub offset : found.0 ≡ a.reader.position
  pub answer : Ok (Some found.1) ≡ read a.reader.script.now a.reader.position st
  pub position : b.reader.position ≡ a.reader.position + length (encode found.1)
  pub past : a.reader.position < b.reader.position
  pub lines : b.lines.items ≡ a.lines.items

-- or the script ends there, and what is left to print was printed
abbrev pub Fetches : Stage → Session → Option (ℕ × Command) → Session → Type 0
Fetches st a (Some found) b = Found st a found b
Fetches st a None b = (memory : ℕ) (state : State) → stage_of state ≡ st → b.lines.items ≡ whole_account memory a state

-- a floor was formed: what is left is printed from there on, and the memory is enough for its book
pub record Forms (memory : ℕ) (a : Session) (f : Formed) (b : Session) : Type 0 where
  pub rest : whole_account memory b (formed f.parameters (Ok f.kind)) ≡ whole_account memory a None
  pub desks : outside 2 16 f.parameters.group.desks ≡ false
  pub memory_enough : bytes_of f.kind f.parameters.group.desks ≤ memory

-- or the script ended before one was
abbrev pub FormsFirst : ℕ → Session → Option Formed → Session → Type 0
FormsFirst memory a (Some f) b = Forms memory a f b
FormsFirst memory a None b = b.lines.items ≡ whole_account memory a None
