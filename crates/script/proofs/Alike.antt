-- Whatever a script does, it shows no two desks with different figures or needs.
use Rattle.std.proofs.Common.{◌≡◌, ℕ, zero, suc, ◌+◌, ◌-◌, ◌<◌, cond, not, ◌&&◌, eqb, ltb, List, [], ◌∷◌, ◌++◌, length, get_or, set, ℤ, pos, negsuc, Some, None, Ok, Err, Option, Result, sym, refl, ap, ◌∙◌, arith}
use Rattle.std.proofs.lemmas.Grind.{common_steps, flat_map-append}
use Rattle.desks.specs.Firsts.{first}
use Rattle.desks.specs.Sets.{has_desk}
use Rattle.book.specs.declared.faults.BookFault.{BookFault}
use Rattle.book.specs.Calls.{opening_tests}
use Rattle.floor.specs.declared.forming.BookKind.{BookKind}
use Rattle.reader.specs.declared.command.Stage.TheVariants as stage
use Rattle.reader.specs.declared.command.Command.{Command}
use Rattle.reader.specs.declared.command.Command.TheVariants.{Form, Opening, Open, Quiet, Close}
use Rattle.reader.specs.declared.faults.ScriptFault.{ScriptFault}
use Rattle.reader.specs.Commands.{encode, read}
use Rattle.account.specs.declared.lines.Line.{Line}
use Rattle.account.specs.declared.lines.Line.TheVariants as line
use Rattle.script.specs.Days.{answer_line, opening_reply, opened, formed, form_line, form_result, Day, State, stage_of, each, by_correct, figure_line, figure_lines, need_line, close_lines, day_after, state_after, state_lines, lines_of_read, lines_by, lines_from, account_of}
use Rattle.script.specs.Alike.{about, said_of, ShownAlike}

figure_own : (i : ℕ) (z : ℤ) (d e : ℕ) → about d (figure_line e i z) ≡ cond (eqb e d) (figure_line 0 i z) []
figure_own i (pos zero) d e = grind (arith, common_steps)
figure_own i (pos (suc n)) d e = grind (arith, common_steps)
figure_own i (negsuc n) d e = grind (arith, common_steps)

need_own : (o : Option ℤ) (d e : ℕ) → about d (need_line e o) ≡ cond (eqb e d) (need_line 0 o) []
need_own None d e = grind (arith, common_steps)
need_own (Some z) d e = grind (arith, common_steps)

-- lines one after another, each of desk e
each_own : (f : ℕ → ℕ → List Line) (v : ℕ → List Line) (d e n : ℕ) → ((i : ℕ) → about d (f e i) ≡ cond (eqb e d) (v i) []) → about d (each (f e) n) ≡ cond (eqb e d) (each v n) []
each_own f v d e zero h = grind (arith, common_steps)
each_own f v d e (suc n) h = grind (arith, common_steps, flat_map-append (said_of d) (each (f e) n) (f e n), each_own f v d e n h, h n)

-- the lines of all correct desks: those of desk d are its own
shown_of : (faulty : ℕ) (f v : ℕ → List Line) (d n : ℕ) → ((e : ℕ) → about d (f e) ≡ cond (eqb e d) (v e) []) → about d (each (by_correct faulty f) n) ≡ cond (ltb d n && not (has_desk faulty d)) (v d) []
shown_of faulty f v d zero own = grind (arith, common_steps)
shown_of faulty f v d (suc n) own = grind (arith, common_steps, flat_map-append (said_of d) (each (by_correct faulty f) n) (by_correct faulty f n), shown_of faulty f v d n own, own n)

-- what closing shows of a desk, if it is correct: its figures and its need
abbrev own_lines : Day → List ℤ → List Line
own_lines day fs = figure_lines day.rules.width (λ _. fs) 0 ++ need_line 0 (day.needs fs)

closing : (day : Day) (d : ℕ) → about d (close_lines day) ≡ cond (ltb d day.desks && not (has_desk day.faulty d)) (own_lines day (day.figures d)) []
closing day d =
    let f = shown_of day.faulty (figure_lines day.rules.width day.figures) (λ e. figure_lines day.rules.width (λ _. day.figures e) 0) d day.desks
    (λ e. each_own (λ x i. figure_line x i (get_or (day.figures e) i (pos 0))) (λ i. figure_line 0 i (get_or (day.figures e) i (pos 0))) d e day.rules.width (λ i. figure_own i (get_or (day.figures e) i (pos 0)) d e)) in
    let n = shown_of day.faulty (λ e. need_line e (day.needs (day.figures e))) (λ e. need_line 0 (day.needs (day.figures e))) d day.desks (λ e. need_own (day.needs (day.figures e)) d e) in
    grind (arith, common_steps, flat_map-append (said_of d) (each (by_correct day.faulty (figure_lines day.rules.width day.figures)) day.desks) (each (by_correct day.faulty (λ e. need_line e (day.needs (day.figures e)))) day.desks))

-- all desks of a day have the same figures
abbrev SameFigures : Day → Type 0
SameFigures day = (a b : ℕ) → a < day.desks → b < day.desks → day.figures a ≡ day.figures b

closing_alike : (day : Day) → SameFigures day → ShownAlike (close_lines day)
closing_alike day same d e h g = let a = closing day d in let b = closing day e in grind (arith, common_steps, same d e)

-- a closed floor is only asked whether it is quiet
quiet_only : (s : List ℕ) (p : ℕ) (c : Command) → read s p stage.Closed ≡ Ok (Some c) → c ≡ Quiet
quiet_only s p c e = grind (arith, common_steps)

closed_silent : (k memory : ℕ) (s : List ℕ) (p : ℕ) (day : Day) (d : ℕ) → day.stage ≡ stage.Closed → about d (lines_by k memory s p (Some day)) ≡ []
unfolding lines_by
closed_silent zero memory s p day d c = refl
closed_silent (suc k) memory s p day d c = by (read s p day.stage) refl (λ q. closed_silent k memory s q day d c) where
  by : (r : Result (Option Command) ScriptFault) → read s p day.stage ≡ r → ((q : ℕ) → about d (lines_by k memory s q (Some day)) ≡ []) → about d (lines_of_read memory p (Some day) (lines_by k memory s) r) ≡ []
  by (Ok None) e rest = refl
  by (Err f) e rest = refl
  by (Ok (Some x)) e rest = let q : x ≡ Quiet = quiet_only s p x (ap (read s p) (sym c) ∙ e) in rw q (rest (p + 1))

-- a state whose desks all have the same figures, if it has desks
abbrev StateAlike : State → Type 0
StateAlike None = Unit {0}
StateAlike (Some day) = SameFigures day

-- one command, and then the rest
turn : (k memory : ℕ) (s : List ℕ) (p : ℕ) (st : State) (c : Command) → StateAlike st → ((q : ℕ) (t : State) → StateAlike t → ShownAlike (lines_by k memory s q t)) → ShownAlike (state_lines memory p st c ++ lines_by k memory s (p + length (encode c)) (state_after memory st c))
turn k memory s p None (Form f) h rest = by (form_result memory f) where
  by : (r : Result BookKind ScriptFault) → ShownAlike ((form_line p r ∷ []) ++ lines_by k memory s (p + length (encode (Form f))) (formed f.parameters r))
  by (Ok kind) = rest _ (formed f.parameters (Ok kind)) (λ a b x y. grind (arith, common_steps))
  by (Err x) = rest _ None tt
turn k memory s p None (Opening o) h rest = rest _ None tt
turn k memory s p None Open h rest = rest _ None tt
turn k memory s p None Quiet h rest = rest _ None tt
turn k memory s p None Close h rest = rest _ None tt
turn k memory s p (Some day) (Form f) h rest = rest _ (Some day) h
turn k memory s p (Some day) (Opening o) h rest = by (first (opening_tests day.rules o.figure o.amount)) where
  by : (r : Option BookFault) → ShownAlike ((answer_line line.Opening (opening_reply r) p ∷ []) ++ lines_by k memory s (p + length (encode (Opening o))) (Some (opened day o r)))
  by None = rest _ (Some (opened day o None)) (λ a b x y. ap (λ z. set z o.figure o.amount) (h a b x y))
  by (Some f) = rest _ (Some day) h
turn k memory s p (Some day) Open h rest = rest _ (Some (day_after day Open)) h
turn k memory s p (Some day) Quiet h rest = rest _ (Some day) h
turn k memory s p (Some day) Close h rest = λ d e a b.
    let f : (x : ℕ) → about x (close_lines day ++ lines_by k memory s (p + 1) (Some (day_after day Close))) ≡ about x (close_lines day) = λ x.
    grind (arith, common_steps, flat_map-append (said_of x) (close_lines day) (lines_by k memory s (p + 1) (Some (day_after day Close))), closed_silent k memory s (p + 1) (day_after day Close) x refl) in
    f d ∙ closing_alike day h d e (λ z. a (f d ∙ z)) (λ z. b (f e ∙ z)) ∙ sym (f e)

lines_alike : (k memory : ℕ) (s : List ℕ) (p : ℕ) (st : State) → StateAlike st → ShownAlike (lines_by k memory s p st)
unfolding lines_by
lines_alike zero memory s p st h = λ d e a b. absurd (a refl)
lines_alike (suc k) memory s p st h = by (read s p (stage_of st)) (λ q t g. lines_alike k memory s q t g) where
  by : (r : Result (Option Command) ScriptFault) → ((q : ℕ) (t : State) → StateAlike t → ShownAlike (lines_by k memory s q t)) → ShownAlike (lines_of_read memory p st (lines_by k memory s) r)
  by (Ok None) rest = λ d e a b. absurd (a refl)
  by (Err f) rest = λ d e a b. absurd (a refl)
  by (Ok (Some c)) rest = turn k memory s p st c h rest

pub shown_alike : (memory : ℕ) (s : List ℕ) → ShownAlike (account_of memory s)
unfolding lines_from
shown_alike memory s = lines_alike (suc (length s - 0)) memory s 0 None tt
