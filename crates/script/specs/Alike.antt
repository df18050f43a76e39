-- What an account says of one desk, and that it says the same of any two that it shows. Assumes nothing.
use Rattle.std.specs.Prelude.{◌≡◌, ℕ, if◌then◌else◌, List, [], ◌∷◌, ◌==◌, ◌≢◌, flat_map}
use Rattle.account.specs.declared.lines.Line.{Line}
use Rattle.account.specs.declared.lines.Line.TheVariants.{Formed, Opening, Opened, Quiet, Closed, Figure, Need, Refused}

-- what a line says of a desk: its figure or its hedge need, without its number
abbrev pub said_of : ℕ → Line → List Line
said_of d Formed = []
said_of d Opening = []
said_of d Opened = []
said_of d (Quiet q) = []
said_of d (Closed q) = []
said_of d (Figure l) = if l.desk == d then Figure (record l { desk = 0 }) ∷ [] else []
said_of d (Need l) = if l.desk == d then Need (record l { desk = 0 }) ∷ [] else []
said_of d (Refused r offset) = []

-- the figures and the hedge need of a desk, in order
abbrev pub about : ℕ → List Line → List Line
about d ls = flat_map (said_of d) ls

-- no two desks are shown with different figures or different needs
abbrev pub ShownAlike : List Line → Type 0
ShownAlike ls = (d e : ℕ) → (about d ls ≢ []) → (about e ls ≢ []) → about d ls ≡ about e ls
