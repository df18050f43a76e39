-- The fields that the items of all books have in one place: a kind, four bytes from the third on, and two zero bytes. Assumes nothing.
use Rattle.std.specs.Prelude.{ℕ, ◌+◌, ◌*◌, Bool, ◌&&◌, List, ◌==◌, Option, Result, slice_index}
use Rattle.std.specs.Option.{option_map}
use Rattle.desks.specs.Firsts.{unless}
use Rattle.book.specs.declared.faults.WrongField.{WrongField}

abbrev pub byte : ℕ → List ℕ → ℕ
byte k x = slice_index x k

-- bytes 2 to 5, high byte first
abbrev pub quantity : List ℕ → ℕ
quantity x = byte 2 x * 16777216 + byte 3 x * 65536 + byte 4 x * 256 + byte 5 x

-- bytes 6 and 7 are zero
abbrev pub padded : List ℕ → Bool
padded x = byte 6 x == 0 && byte 7 x == 0

-- what an item reads as, unless a field is wrong at an offset
abbrev pub wrong_at : ℕ → WrongField
wrong_at k = record { offset = k }

abbrev pub reading : {A : Type 0} → Option ℕ → A → Result A WrongField
reading wrong a = unless (option_map wrong_at wrong) a
