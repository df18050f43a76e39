-- The lines from a position on, command by command.
use Rattle.std.proofs.Common.{◌≡◌, ℕ, zero, suc, ◌+◌, ◌-◌, ◌<◌, ◌≤◌, List, ◌++◌, length, Some, None, Ok, Err, Option, Result, MatchOption, IsSomeAnd, sym, refl, ap, arith}
use Rattle.std.proofs.lemmas.Grind.{common_steps}
use Rattle.reader.specs.declared.command.Command.{Command}
use Rattle.reader.specs.declared.faults.ScriptFault.{ScriptFault}
use Rattle.account.specs.declared.lines.Line.{Line}
use Rattle.reader.specs.Commands.{encode, read, position_after}
use Rattle.reader.specs.declared.command.Stage.{Stage}
use Rattle.reader.proofs.Standing.{moves}
use Rattle.script.specs.declared.session.Session.{Session}
use Rattle.script.specs.Turns.{Found, Fetches, whole_account}
use Rattle.script.specs.Days.{State, stage_of, state_lines, state_after, lines_of_read, lines_by, lines_from}

-- enough commands are enough
enough : (j k memory : ℕ) (s : List ℕ) (p : ℕ) (st : State) → length s < p + j → length s < p + k → p ≤ length s → lines_by j memory s p st ≡ lines_by k memory s p st
unfolding lines_by
enough zero k memory s p st h g l = absurd (omega arith)
enough (suc j) zero memory s p st h g l = absurd (omega arith)
enough (suc j) (suc k) memory s p st h g l = by (read s p (stage_of st)) refl (λ q t a b c. enough j k memory s q t a b c) where
  by : (r : Result (Option Command) ScriptFault) → read s p (stage_of st) ≡ r → ((q : ℕ) (t : State) → length s < q + j → length s < q + k → q ≤ length s → lines_by j memory s q t ≡ lines_by k memory s q t) → lines_of_read memory p st (lines_by j memory s) r ≡ lines_of_read memory p st (lines_by k memory s) r
  by (Ok None) e rest = refl
  by (Ok (Some c)) e rest =
      let m = moves s p (stage_of st) c e in
      ap (λ ls. state_lines memory p st c ++ ls) (rest (p + length (encode c)) (state_after memory st c) (omega arith) (omega arith) m.1)
  by (Err f) e rest = refl

-- what is printed from a position on: by what is read there, and then from the next position on
pub one_by_one : (memory : ℕ) (s : List ℕ) (p : ℕ) (st : State) → p ≤ length s → lines_from memory s p st ≡ lines_of_read memory p st (lines_from memory s) (read s p (stage_of st))
unfolding lines_by lines_from
one_by_one memory s p st l = by (read s p (stage_of st)) refl where
  by : (r : Result (Option Command) ScriptFault) → read s p (stage_of st) ≡ r → lines_of_read memory p st (lines_by (length s - p) memory s) r ≡ lines_of_read memory p st (lines_from memory s) r
  by (Ok None) e = refl
  by (Ok (Some c)) e =
      let m = moves s p (stage_of st) c e in
      ap (λ ls. state_lines memory p st c ++ ls) (enough (length s - p) (suc (length s - (p + length (encode c)))) memory s (p + length (encode c)) (state_after memory st c) (omega arith) (omega arith) m.1)
  by (Err f) e = refl

-- what a look at a script gives, where it adds no line
pub fetched : (a b : Session) (st : Stage) (o : Option Command) (r : Option (ℕ × Command)) → MatchOption o (r ≡ None) (λ c. IsSomeAnd r (λ f. f ≡ (a.reader.position, c))) → Ok o ≡ read a.reader.script.now a.reader.position st → b.reader.position ≡ position_after a.reader.position (Ok o) → b.lines ≡ a.lines → Fetches st a r b
fetched a b st (Some c) (Some f) i e q l =
    let m = moves a.reader.script.now a.reader.position st c (sym e) in
    record { offset = grind arith; answer = grind arith; position = grind arith; past = grind arith; lines = ap (λ v. v.items) l }
fetched a b st (Some c) None i e q l = absurd i
fetched a b st None (Some f) i e q l = absurd (grind arith)
fetched a b st None None i e q l = λ memory state k.
    let s = one_by_one memory a.reader.script.now a.reader.position state a.reader.within in
    grind (arith, common_steps)

-- a command that was found, and then its lines: what is printed from there on is what was to be printed
pub turned : (memory : ℕ) (a b : Session) (ls : List Line) (st st' : State) (o : Option (ℕ × Command)) (found : ℕ × Command) → o ≡ Some found → Fetches (stage_of st) a o b → b.reader.script ≡ a.reader.script → ls ≡ b.lines.items ++ state_lines memory found.0 st found.1 → st' ≡ state_after memory st found.1 → ls ++ lines_from memory b.reader.script.now b.reader.position st' ≡ whole_account memory a st
turned memory a b ls st st' o found i t s g h =
    let f : Found (stage_of st) a found b = rw i at t in
    let e = one_by_one memory a.reader.script.now a.reader.position st a.reader.within in
    grind (arith, common_steps, f, e)
