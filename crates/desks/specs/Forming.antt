-- The refusals of forming that the parameters of a group decide, in order. Assumes nothing.
use Rattle.std.specs.Prelude.{ℕ, ◌*◌, Bool, not, ◌&&◌, ◌||◌, [], ◌∷◌, ◌==◌, nat_le, nat_lt}
use Rattle.desks.specs.declared.faults.Parameter.{Parameter}
use Rattle.desks.specs.declared.faults.Parameter.TheVariants.{Desks, Numbers, Faults, Factor, BookCode}
use Rattle.desks.specs.declared.faults.FormFault.{FormFault}
use Rattle.desks.specs.declared.faults.FormFault.TheVariants.{Range, Resilience, FaultySet}
use Rattle.desks.specs.declared.group.Group.{Group}
use Rattle.desks.specs.declared.group.GroupParameters.{GroupParameters}
use Rattle.desks.specs.Firsts.{Tests}
use Rattle.desks.specs.Sets.{size_of, beyond}

-- below the least or above the most
abbrev pub outside : ℕ → ℕ → ℕ → Bool
outside least most x = nat_lt x least || nat_lt most x

-- 2 to 16 desks, 1 to 64 numbers, at most 5 faults, a factor of 3 or 5, a book of code 1 or 2
abbrev pub out_of_range : Parameter → ℕ → Bool
out_of_range Desks x = outside 2 16 x
out_of_range Numbers x = outside 1 64 x
out_of_range Faults x = nat_lt 5 x
out_of_range Factor x = not (x == 3) && not (x == 5)
out_of_range BookCode x = not (x == 1) && not (x == 2)

-- the group's own parameters and the factor, each in its range
abbrev pub ranges : GroupParameters → Tests FormFault
ranges g =
    (out_of_range Desks g.group.desks, Range Desks)
    ∷ (out_of_range Numbers g.group.numbers, Range Numbers)
    ∷ (out_of_range Faults g.group.faults, Range Faults)
    ∷ (out_of_range Factor g.factor, Range Factor)
    ∷ []

-- factor times faults is below the number of desks, and the faulty set has only desks of the group and no more than may be faulty
abbrev pub bounds : GroupParameters → Tests FormFault
bounds g =
    (nat_le g.group.desks (g.factor * g.group.faults), Resilience g.group.faults)
    ∷ (beyond g.group.faulty.bits g.group.desks || nat_lt g.group.faults (size_of g.group.faulty.bits), FaultySet (size_of g.group.faulty.bits))
    ∷ []

-- the parameters of a group under a protocol of that factor
abbrev pub parameters_under : ℕ → Group → GroupParameters
parameters_under factor g = record { group = g; factor = factor }
