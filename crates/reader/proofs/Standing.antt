-- A command that is read stands at its position, and one that stands there is read.
use Rattle.std.proofs.Common.{◌≡◌, ℕ, ◌+◌, ◌<◌, ◌≤◌, true, List, length, get_or, take, drop, Some, None, Ok, Option, refl, ap, ◌∙◌, arith, to_z-of_z, w32, to_z, of_z}
use Rattle.std.proofs.lemmas.Grind.{common_steps}
use Rattle.reader.specs.declared.command.Stage.{Stage}
use Rattle.reader.specs.declared.command.Kind.{Kind}
use Rattle.reader.specs.declared.command.Kind.TheVariants as kind
use Rattle.reader.specs.declared.command.Command.{Command}
use Rattle.reader.specs.declared.command.Command.TheVariants.{Form, Opening, Open, Quiet, Close}
use Rattle.reader.specs.Kinds.{kind_of, allows}
use Rattle.reader.specs.Commands.{encode, command_at, operand_bytes, two_at, four_at, read, read_kind}
use Rattle.reader.specs.Readings.{Bytes}
use Rattle.reader.specs.Laws.{Stands}

-- why a command was read
pub record Got (s : List ℕ) (p : ℕ) (st : Stage) (c : Command) : Type 0 where
  pub what : Kind
  pub inside : p < length s
  pub named : kind_of (get_or s p 0) ≡ Some what
  pub allowed : allows st what ≡ true
  pub whole : p + 1 + operand_bytes what ≤ length s
  pub is : c ≡ command_at s (p + 1) what

got_kind : (s : List ℕ) (p : ℕ) (st : Stage) (c : Command) (o : Option Kind) → p < length s → kind_of (get_or s p 0) ≡ o → read_kind s p st o ≡ Ok (Some c) → Got s p st c
got_kind s p st c None h n e = absurd (grind (arith, common_steps))
got_kind s p st c (Some k) h n e = record { what = k; inside = h; named = n; allowed = grind (arith, common_steps); whole = grind (arith, common_steps); is = grind (arith, common_steps) }

pub got : (s : List ℕ) (p : ℕ) (st : Stage) (c : Command) → read s p st ≡ Ok (Some c) → Got s p st c
got s p st c e = got_kind s p st c (kind_of (get_or s p 0)) (grind (arith, common_steps)) refl (grind (arith, common_steps))

pub moves : (s : List ℕ) (p : ℕ) (st : Stage) (c : Command) → read s p st ≡ Ok (Some c) → (p < p + length (encode c)) × (p + length (encode c) ≤ length s)
moves s p st c e = grind (arith, common_steps)

pub stands : (s : List ℕ) (p : ℕ) (st : Stage) (c : Command) → Bytes s → read s p st ≡ Ok (Some c) → Stands s p st c
stands s p st (Form f) b e = record { allowed = grind (arith, common_steps); fits = grind (arith, common_steps); bytes = grind (arith, common_steps) }
stands s p st (Opening o) b e = record { allowed = grind (arith, common_steps); fits = grind (arith, common_steps); bytes = grind (arith, common_steps) }
stands s p st Open b e = record { allowed = grind (arith, common_steps); fits = tt; bytes = grind (arith, common_steps) }
stands s p st Quiet b e = record { allowed = grind (arith, common_steps); fits = tt; bytes = grind (arith, common_steps) }
stands s p st Close b e = record { allowed = grind (arith, common_steps); fits = tt; bytes = grind (arith, common_steps) }

-- what is read, from what is known of the bytes
reads_so : (s : List ℕ) (p : ℕ) (st : Stage) (k : Kind) → kind_of (get_or s p 0) ≡ Some k → allows st k ≡ true → p + 1 + operand_bytes k ≤ length s → read s p st ≡ Ok (Some (command_at s (p + 1) k))
reads_so s p st k n a w = grind (arith, common_steps)

-- the byte at a place where a list of bytes stands
byte_at : (s xs : List ℕ) (p q i : ℕ) → take (length xs) (drop p s) ≡ xs → i < length xs → q ≡ p + i → get_or s q 0 ≡ get_or xs i 0
byte_at s xs p q i e h k = grind (arith, common_steps, ap (λ ys. get_or ys i 0) e)

pub is_read : (s : List ℕ) (p : ℕ) (st : Stage) (c : Command) → Stands s p st c → read s p st ≡ Ok (Some c)
is_read s p st (Form f) h =
    let at : (i q : ℕ) → i < 8 → q ≡ p + i → get_or s q 0 ≡ get_or (encode (Form f)) i 0 = λ i q. byte_at s (encode (Form f)) p q i h.bytes in
    let n : get_or s p 0 ≡ 70 = at 0 p (omega arith) (omega arith) in
    let desks : get_or s (p + 1) 0 ≡ f.parameters.group.desks = at 1 (p + 1) (omega arith) (omega arith) in
    let faults : get_or s (p + 1 + 1) 0 ≡ f.parameters.group.faults = at 2 (p + 1 + 1) (omega arith) (omega arith) in
    let numbers : get_or s (p + 1 + 2) 0 ≡ f.parameters.group.numbers = at 3 (p + 1 + 2) (omega arith) (omega arith) in
    let factor : get_or s (p + 1 + 3) 0 ≡ f.parameters.factor = at 4 (p + 1 + 3) (omega arith) (omega arith) in
    let book : get_or s (p + 1 + 4) 0 ≡ f.book = at 5 (p + 1 + 4) (omega arith) (omega arith) in
    let faulty : two_at s (p + 1 + 5) ≡ f.parameters.group.faulty.bits = omega (arith, at 6 (p + 1 + 5) (omega arith) (omega arith), at 7 (p + 1 + 5 + 1) (omega arith) (omega arith)) in
    let w : p + 8 ≤ length s = grind (arith, common_steps) in
    reads_so s p st kind.Form (rw n refl) h.allowed (omega arith) ∙ grind arith
is_read s p st (Opening o) h =
    let at : (i q : ℕ) → i < 7 → q ≡ p + i → get_or s q 0 ≡ get_or (encode (Opening o)) i 0 = λ i q. byte_at s (encode (Opening o)) p q i h.bytes in
    let n : get_or s p 0 ≡ 79 = at 0 p (omega arith) (omega arith) in
    let figure : two_at s (p + 1) ≡ o.figure = omega (arith, at 1 (p + 1) (omega arith) (omega arith), at 2 (p + 1 + 1) (omega arith) (omega arith)) in
    let four : four_at s (p + 1 + 2) ≡ of_z w32 o.amount = omega (arith, at 3 (p + 1 + 2) (omega arith) (omega arith), at 4 (p + 1 + 2 + 1) (omega arith) (omega arith), at 5 (p + 1 + 2 + 2) (omega arith) (omega arith), at 6 (p + 1 + 2 + 2 + 1) (omega arith) (omega arith)) in
    let amount : to_z w32 (four_at s (p + 1 + 2)) ≡ o.amount = ap (to_z w32) four ∙ to_z-of_z h.fits.amount in
    let w : p + 7 ≤ length s = grind (arith, common_steps) in
    reads_so s p st kind.Opening (rw n refl) h.allowed (omega arith) ∙ grind arith
is_read s p st Open h = grind (arith, common_steps)
is_read s p st Quiet h = grind (arith, common_steps)
is_read s p st Close h = grind (arith, common_steps)
