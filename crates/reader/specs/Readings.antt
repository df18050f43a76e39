-- What the parts of the reader give. Assumes nothing.
use Rattle.std.specs.Prelude.{◌≡◌, ℕ, ◌+◌, ◌<◌, ◌≤◌, List, length, Some, None, Option, slice_index}

-- each is a byte
abbrev pub Bytes : List ℕ → Type 0
Bytes s = (i : ℕ) → slice_index s i < 256

-- from a place on a script has that many bytes, which give the value, and the position moves past them; or it has fewer
abbrev pub Taken : {A : Type 0} → List ℕ → ℕ → ℕ → A → Option A → ℕ → Type 0
Taken s p size value (Some x) after = (p + size ≤ length s) × (x ≡ value) × (after ≡ p + size)
Taken s p size value None after = length s < p + size
