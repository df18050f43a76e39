-- The reader before and after it takes bytes. Assumes nothing.
use Rattle.std.specs.Prelude.{◌≡◌, ℕ, Option}
use Rattle.reader.specs.declared.reader.Reader.{Reader}
use Rattle.reader.specs.Readings.{Taken}

-- so many bytes were taken, which give the value, or the script has fewer left; it is the same script
pub record Takes {A : Type 0} (r : Reader) (size : ℕ) (value : A) (o : Option A) (r' : Reader) : Type 0 where
  pub taken : Taken r.script.now r.position size value o r'.position
  pub script : r'.script ≡ r.script
