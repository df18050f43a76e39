-- The kinds of frames: their codes, and those that the protocol of a factor knows. Assumes nothing.
use Rattle.std.specs.Prelude.{ℕ, Bool, true, false, cond, Some, None, Option, ◌==◌}
use Rattle.std.specs.Option.{option_map_or}
use Rattle.frame.specs.declared.kinds.Kind.{Kind}
use Rattle.frame.specs.declared.kinds.Kind.TheVariants.{Init, Echo, Ready, Witness}
use Rattle.frame.specs.declared.kinds.Kinds.{Kinds}

abbrev pub code_of : Kind → ℕ
code_of Init = 1
code_of Echo = 2
code_of Ready = 3
code_of Witness = 4

-- the kind of a code, where it is one
abbrev pub kind_of : ℕ → Option Kind
kind_of b =
    cond (b == 1) (Some Init) (cond (b == 2) (Some Echo) (cond (b == 3) (Some Ready) (cond (b == 4) (Some Witness) None)))

-- the kinds that the protocol of a factor knows: 1 to 3 at 3, 1 and 4 at 5
abbrev pub known_to : ℕ → Kinds
known_to factor =
    cond (factor == 3) (record { init = true; echo = true; ready = true; witness = false })
    (cond (factor == 5) (record { init = true; echo = false; ready = false; witness = true })
    (record { init = false; echo = false; ready = false; witness = false }))

abbrev pub has_kind : Kinds → Kind → Bool
has_kind ks Init = ks.init
has_kind ks Echo = ks.echo
has_kind ks Ready = ks.ready
has_kind ks Witness = ks.witness

-- whether a code is that of a kind of the set
abbrev pub has_code : Kinds → Option Kind → Bool
has_code ks o = option_map_or (has_kind ks) o false
