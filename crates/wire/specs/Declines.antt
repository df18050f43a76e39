-- What a wire declines, in order: the first test that holds decides. Assumes nothing.
use Rattle.std.specs.Prelude.{ℕ, not, ◌||◌, List, [], ◌∷◌, length, ◌==◌, nat_le, nat_lt}
use Rattle.desks.specs.Firsts.{Tests}
use Rattle.wire.specs.declared.faults.WireFault.{WireFault}
use Rattle.wire.specs.declared.faults.WireFault.TheVariants.{Length, NoRoom, Desk, NoFrame}
use Rattle.wire.specs.declared.wire.Wire.{Wire}
use Rattle.wire.specs.Posted.{frames, places}

-- a frame with that content at the end
abbrev pub post_tests : Wire → List ℕ → Tests WireFault
post_tests w c =
    (not (length c == w.width) || nat_lt 24 (length c), Length (length c))
    ∷ (nat_le (places w) (length (frames w)), NoRoom (length (frames w)))
    ∷ []

-- desk d takes the frame at place i
abbrev pub mark_tests : Wire → ℕ → ℕ → Tests WireFault
mark_tests w i d = (nat_le 16 d, Desk d) ∷ (nat_le (length (frames w)) i, NoFrame i) ∷ []
