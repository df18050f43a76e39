-- What a whole script prints: the lines of each command, from the state that the commands before it led to. Assumes nothing.
use Rattle.std.specs.Prelude.{ℕ, zero, suc, ◌+◌, ◌-◌, true, if◌then◌else◌, ◌&&◌, List, [], ◌∷◌, ◌++◌, length, replicate, ℤ, pos, negsuc, Some, None, Ok, Err, Option, Result, nat_le, nat_lt, slice_index_or, slice_set}
use Rattle.std.specs.Option.{option_map}
use Rattle.std.specs.Result.{result_map_both}
use Rattle.desks.specs.declared.group.GroupParameters.{GroupParameters}
use Rattle.desks.specs.Firsts.{first, unless}
use Rattle.desks.specs.Sets.{has_desk}
use Rattle.book.specs.declared.faults.BookFault.{BookFault}
use Rattle.book.specs.Rules.{Rules}
use Rattle.book.specs.Calls.{opening_tests}
use Rattle.positions.specs.Positions.{positions, hedge_need}
use Rattle.cash.specs.Cash.{cash}
use Rattle.floor.specs.declared.forming.BookKind.{BookKind}
use Rattle.floor.specs.declared.forming.BookKind.TheVariants.{Positions, Cash}
use Rattle.floor.specs.declared.faults.FloorFault.TheVariants.{Book}
use Rattle.floor.specs.Forming.{form_reply}
use Rattle.reader.specs.declared.command.Stage.{Stage}
use Rattle.reader.specs.declared.command.Stage.TheVariants as stage
use Rattle.reader.specs.declared.command.Forming.{Forming}
use Rattle.book.specs.declared.item.Opening as opening
use Rattle.reader.specs.declared.command.Command.{Command}
use Rattle.reader.specs.declared.command.Command.TheVariants.{Form, Opening, Open, Quiet, Close}
use Rattle.reader.specs.declared.faults.ScriptFault.{ScriptFault}
use Rattle.reader.specs.declared.faults.ScriptFault.TheVariants.{Floor}
use Rattle.account.specs.declared.lines.Line.{Line}
use Rattle.account.specs.declared.lines.Line.TheVariants as line
use Rattle.reader.specs.Commands.{encode, read}
use Rattle.reader.specs.Refusals.{script_refusal}

-- a floor that was formed: the rules of its book, the hedge need of figures where the book has one, its desks, the faulty ones,
-- how far it has come, and the figures of each desk
pub record Day : Type 0 where
  pub rules : Rules
  pub needs : List ℤ → Option ℤ
  pub desks : ℕ
  pub faulty : ℕ
  pub stage : Stage
  pub figures : ℕ → List ℤ

-- no floor yet, or a day
abbrev pub State : Type 0
State = Option Day

abbrev pub stage_of : State → Stage
stage_of None = stage.Unformed
stage_of (Some d) = d.stage

-- the rules and needs of a book
abbrev pub rules_of_kind : BookKind → ℕ → Rules
rules_of_kind Positions n = positions n
rules_of_kind Cash n = cash n

abbrev pub needs_of_kind : BookKind → List ℤ → Option ℤ
needs_of_kind Positions f = Some (hedge_need f)
needs_of_kind Cash f = None

-- a day as forming leaves it: all figures are 0
abbrev pub new_day : Rules → (List ℤ → Option ℤ) → GroupParameters → Day
new_day rules needs g = record {
  rules = rules;
  needs = needs;
  desks = g.group.desks;
  faulty = g.group.faulty.bits;
  stage = stage.Set;
  figures = λ d. if nat_lt d g.group.desks then replicate rules.width (pos 0) else [];
}

-- the memory that a script lends to a floor: all of it to at most 6 desks and 4 numbers, none to larger ones
abbrev pub lent : ℕ → GroupParameters → ℕ
lent memory g = if nat_le g.group.desks 6 && nat_le g.group.numbers 4 then memory else 0

-- the line of a command: its own, or that of its refusal
abbrev pub answer_line : {A : Type 0} → Line → Result A ScriptFault → ℕ → Line
answer_line done (Ok x) p = done
answer_line done (Err f) p = line.Refused (script_refusal f) p

-- forming: a day, or a refusal that leaves none
abbrev pub formed : GroupParameters → Result BookKind ScriptFault → State
formed g (Ok k) = Some (new_day (rules_of_kind k g.group.desks) (needs_of_kind k) g)
formed g (Err f) = None

-- and its line
abbrev pub form_line : ℕ → Result BookKind ScriptFault → Line
form_line p r = answer_line line.Formed r p

-- why an opening is refused
abbrev pub opening_fault : Day → opening.Opening → Option BookFault
opening_fault d o = first (opening_tests d.rules o.figure o.amount)

-- an opening: the figure of every desk, or a refusal that changes nothing
abbrev pub opened : Day → opening.Opening → Option BookFault → Day
opened d o None = record d { figures = λ e. slice_set (d.figures e) o.figure o.amount }
opened d o (Some f) = d

-- the book's fault, inside the floor's, inside the script's
abbrev pub opening_reply : Option BookFault → Result (Unit {0}) ScriptFault
opening_reply fault = unless (option_map (λ f. Floor (Book f)) fault) tt

-- lines for each number below n, in order
abbrev pub each : (ℕ → List Line) → ℕ → List Line
each f zero = []
each f (suc n) = each f n ++ f n

-- the lines of correct desks alone
abbrev pub by_correct : ℕ → (ℕ → List Line) → ℕ → List Line
by_correct faulty f e = if has_desk faulty e then [] else f e

-- a figure that is not 0
abbrev pub figure_line : ℕ → ℕ → ℤ → List Line
figure_line e i (pos zero) = []
figure_line e i (pos (suc n)) = line.Figure (record { desk = e; figure = i; value = pos (suc n) }) ∷ []
figure_line e i (negsuc n) = line.Figure (record { desk = e; figure = i; value = negsuc n }) ∷ []

-- the figures of a desk
abbrev pub figure_lines : ℕ → (ℕ → List ℤ) → ℕ → List Line
figure_lines width figures e = each (λ i. figure_line e i (slice_index_or (figures e) i (pos 0))) width

-- its hedge need, where the book has one
abbrev pub need_line : ℕ → Option ℤ → List Line
need_line e None = []
need_line e (Some z) = line.Need (record { desk = e; need = z }) ∷ []

-- closing: nothing is under way, so it is quiet; then the figures of the correct desks, and then their hedge needs
abbrev pub close_lines : Day → List Line
close_lines d =
    (line.Closed true ∷ [])
    ++ (each (by_correct d.faulty (figure_lines d.rules.width d.figures)) d.desks
    ++ each (by_correct d.faulty (λ e. need_line e (d.needs (d.figures e)))) d.desks)

-- the floor's check, its fault inside the script's
abbrev pub form_result : ℕ → Forming → Result BookKind ScriptFault
form_result memory f = result_map_both (λ kind. kind) Floor (form_reply f.parameters f.book (lent memory f.parameters))

-- what a command at a position makes of a state, on so much memory
abbrev pub day_after : Day → Command → Day
day_after d (Form f) = d
day_after d (Opening o) = opened d o (opening_fault d o)
day_after d Open = record d { stage = stage.Open }
day_after d Quiet = d
day_after d Close = record d { stage = stage.Closed }

abbrev pub state_after : ℕ → State → Command → State
state_after memory None (Form f) = formed f.parameters (form_result memory f)
state_after memory None (Opening o) = None
state_after memory None Open = None
state_after memory None Quiet = None
state_after memory None Close = None
state_after memory (Some d) c = Some (day_after d c)

-- and the lines that it prints
abbrev pub day_lines : ℕ → Day → Command → List Line
day_lines p d (Form f) = []
day_lines p d (Opening o) = answer_line line.Opening (opening_reply (opening_fault d o)) p ∷ []
day_lines p d Open = line.Opened ∷ []
day_lines p d Quiet = line.Quiet true ∷ []
day_lines p d Close = close_lines d

abbrev pub state_lines : ℕ → ℕ → State → Command → List Line
state_lines memory p None (Form f) = form_line p (form_result memory f) ∷ []
state_lines memory p None (Opening o) = []
state_lines memory p None Open = []
state_lines memory p None Quiet = []
state_lines memory p None Close = []
state_lines memory p (Some d) c = day_lines p d c

-- a fault of reading ends the script; a command that is read is followed by the rest
abbrev pub lines_of_read : ℕ → ℕ → State → (ℕ → State → List Line) → Result (Option Command) ScriptFault → List Line
lines_of_read memory p st rest (Ok None) = []
lines_of_read memory p st rest (Ok (Some c)) = state_lines memory p st c ++ rest (p + length (encode c)) (state_after memory st c)
lines_of_read memory p st rest (Err f) = line.Refused (script_refusal f) p ∷ []

-- the lines from a position on, of at most k commands
unfoldable pub lines_by : ℕ → ℕ → List ℕ → ℕ → State → List Line
lines_by zero memory s p st = []
lines_by (suc k) memory s p st = lines_of_read memory p st (lines_by k memory s) (read s p (stage_of st))

-- the lines from a position on: as each command has a byte at least, no more commands than bytes, and one look at the end
unfoldable pub lines_from : ℕ → List ℕ → ℕ → State → List Line
unfolding lines_by
lines_from memory s p st = lines_by (suc (length s - p)) memory s p st

-- the account of a whole script, on so much memory
abbrev pub account_of : ℕ → List ℕ → List Line
account_of memory s = lines_from memory s 0 None

-- the bytes that a script lends: enough for 6 desks and either book
abbrev pub script_memory : ℕ
script_memory = 6144
