-- The text of a script's account: its numbers, its lines, and the lines one after another. Assumes nothing.
use Rattle.std.specs.Prelude.{ℕ, List, [], ◌∷◌, ◌++◌, ℤ, pos, flat_map}
use Rattle.std.specs.Fmt.{signed_decimal}
use Rattle.std.specs.Int.{from_bool}
use Rattle.desks.specs.Refusals.{letter_of}
use Rattle.account.specs.declared.lines.Line.{Line}
use Rattle.account.specs.declared.lines.Line.TheVariants.{Formed, Opening, Opened, Quiet, Closed, Figure, Need, Refused}

-- the decimal text of a number, with a minus sign before one below 0
abbrev pub number : ℤ → List ℕ
number z = signed_decimal z

-- each field after a space
abbrev pub spaced : List (List ℕ) → List ℕ
spaced [] = []
spaced (f ∷ fs) = 32 ∷ f ++ spaced fs

-- a line without its end: a sign, F O G Q Z = H or !, and its fields
abbrev pub words_of : Line → List ℕ
words_of Formed = 70 ∷ []
words_of Opening = 79 ∷ []
words_of Opened = 71 ∷ []
words_of (Quiet quiet) = 81 ∷ spaced (number (pos (from_bool quiet)) ∷ [])
words_of (Closed closed) = 90 ∷ spaced (number (pos (from_bool closed)) ∷ [])
words_of (Figure l) = 61 ∷ spaced (number (pos l.desk) ∷ number (pos l.figure) ∷ number l.value ∷ [])
words_of (Need l) = 72 ∷ spaced (number (pos l.desk) ∷ number l.need ∷ [])
words_of (Refused r offset) =
    33 ∷ spaced (number (pos r.number) ∷ (letter_of r.layer ∷ []) ∷ number (pos r.place) ∷ number (pos offset) ∷ [])

-- a line, ended by a newline
abbrev pub text_of : Line → List ℕ
text_of l = words_of l ++ 10 ∷ []

-- the lines one after another
abbrev pub account : List Line → List ℕ
account ls = flat_map text_of ls
