-- The check of forming: the parameters, the book's code, what they say together, and the memory, in that order. Assumes nothing.
use Rattle.std.specs.Prelude.{ℕ, cond, [], ◌∷◌, ◌++◌, Result, ◌==◌, nat_lt}
use Rattle.std.specs.Option.{option_map}
use Rattle.desks.specs.declared.faults.Parameter.TheVariants.{BookCode}
use Rattle.desks.specs.declared.faults.FormFault.{FormFault}
use Rattle.desks.specs.declared.faults.FormFault.TheVariants.{Range, Memory}
use Rattle.desks.specs.declared.group.GroupParameters.{GroupParameters}
use Rattle.desks.specs.Firsts.{Tests, first, unless}
use Rattle.desks.specs.Forming.{out_of_range, ranges, bounds}
use Rattle.positions.specs.Positions.{position_bytes}
use Rattle.cash.specs.Cash.{cash_bytes}
use Rattle.floor.specs.declared.forming.BookKind.{BookKind}
use Rattle.floor.specs.declared.forming.BookKind.TheVariants.{Positions, Cash}
use Rattle.floor.specs.declared.faults.FloorFault.{FloorFault}
use Rattle.floor.specs.declared.faults.FloorFault.TheVariants.{Form}

-- code 1 is positions, code 2 is cash
abbrev pub kind_of : ℕ → BookKind
kind_of code = cond (code == 1) Positions Cash

-- the bytes that a floor of that book and so many desks needs
abbrev pub bytes_of : BookKind → ℕ → ℕ
bytes_of Positions n = position_bytes n
bytes_of Cash n = cash_bytes n

-- the memory, of so many bytes, is large enough
abbrev pub memory_test : GroupParameters → ℕ → ℕ → Tests FormFault
memory_test g code memory =
    (nat_lt memory (bytes_of (kind_of code) g.group.desks), Memory (bytes_of (kind_of code) g.group.desks)) ∷ []

-- the ranges of the group, of the book's code, the group's bounds, the memory
abbrev pub behind_ranges : GroupParameters → ℕ → ℕ → Tests FormFault
behind_ranges g code memory = (out_of_range BookCode code, Range BookCode) ∷ bounds g ++ memory_test g code memory

abbrev pub form_tests : GroupParameters → ℕ → ℕ → Tests FormFault
form_tests g code memory = ranges g ++ behind_ranges g code memory

abbrev pub form_reply : GroupParameters → ℕ → ℕ → Result BookKind FloorFault
form_reply g code memory = unless (option_map Form (first (form_tests g code memory))) (kind_of code)
