-- All that a carrier means: its size, what each of its values means, its exact steps, and what it shows of them. Assumes nothing.
use Rattle.std.specs.Prelude.{◌≡◌, ℕ, List, length, replicate, None, Ok, Err, Option, Result}
use Rattle.desks.specs.declared.group.Group.{Group}
use Rattle.desks.specs.Firsts.{first, tests_above, unless}
use Rattle.desks.specs.declared.faults.FormFault.{FormFault}
use Rattle.frame.specs.Kinds.{known_to}
use Rattle.carrier.specs.declared.faults.CarrierFault.{CarrierFault}
use Rattle.carrier.specs.declared.faults.CarrierFault.TheVariants.{Form}
use Rattle.carrier.specs.Meaning.{Content, Meaning, Valid}
use Rattle.carrier.specs.Laws.{Laws}
use Rattle.carrier.specs.Declines.{size_tests, form_tests}
use Rattle.carrier.specs.Changes.{Reply, Cleared, Offer, Take, Feign}

-- what every carrier shows: its laws in every state, that each exact step is one that a carrier may make, and that a new one is cleared
pub record CarrierLaws {C : Type 0} (factor : ℕ) (meaning : C → Meaning) (starts : Group → ℕ → C → Type 0) (offers : C → ℕ → Content → Result ℕ CarrierFault → C → Type 0)
    (takes : C → ℕ → ℕ → Reply → C → Type 0) (feigns : C → ℕ → ℕ → List ℕ → Reply → C → Type 0) : Type 0 where
  pub valid : (s : C) → Valid factor (meaning s).group
  pub lawful : (s : C) → Laws (meaning s)
  pub start_is : (s : C) (g : Group) (places : ℕ) → starts g places s → Cleared g places (meaning s)
  pub offer_is : (s s' : C) (d : ℕ) (c : Content) (r : Result ℕ CarrierFault) → offers s d c r s' → Offer (meaning s) d c r (meaning s')
  pub take_is : (s s' : C) (i d : ℕ) (r : Reply) → takes s i d r s' → Take (meaning s) i d r (meaning s')
  pub feign_is : (s s' : C) (p d : ℕ) (bytes : List ℕ) (r : Reply) → feigns s p d bytes r s' → Feign (known_to factor) (meaning s) p d bytes r (meaning s')

pub record CarrierModel (C : Type 0) : Type 1 where
  -- the desks outnumber the faults by this factor
  pub factor : ℕ
  -- the bytes that it needs for so many desks and numbers
  pub bytes : ℕ → ℕ → ℕ
  pub meaning : C → Meaning
  -- the memory that it was lent
  pub memory : C → List ℕ
  -- the exact steps: a new carrier, and for each call the value before, the arguments, the reply, and the value after
  pub starts : Group → ℕ → C → Type 0
  pub offers : C → ℕ → Content → Result ℕ CarrierFault → C → Type 0
  pub takes : C → ℕ → ℕ → Reply → C → Type 0
  pub feigns : C → ℕ → ℕ → List ℕ → Reply → C → Type 0
  pub laws : CarrierLaws factor meaning starts offers takes feigns

module _ {C : Type 0} (m : CarrierModel C) where
  -- how many bytes are needed
  abbrev pub bytes_reply : ℕ → ℕ → Result ℕ CarrierFault
  bytes_reply n s = unless (first (size_tests n s)) (m.bytes n s)

  -- why it cannot be made on so many bytes
  abbrev pub form_fault : Group → ℕ → Option FormFault
  form_fault g memory = first (form_tests m.factor (m.bytes g.desks g.numbers) g memory)

  abbrev pub check_reply : Group → ℕ → Result (Unit {0}) CarrierFault
  check_reply g memory = unless (first (tests_above Form (form_tests m.factor (m.bytes g.desks g.numbers) g memory))) tt

  -- a new carrier: as it starts, and the whole memory handed in is 0
  pub record Made (g : Group) (memory : List ℕ) (places : ℕ) (s : C) : Type 0 where
    pub starts : m.starts g places s
    pub cleared : m.memory s ≡ replicate (length memory) 0

  -- forming: refused, or a new carrier
  abbrev pub Forms : Group → List ℕ → ℕ → Result C CarrierFault → Type 0
  Forms g memory places (Ok s) = (form_fault g (length memory) ≡ None) × Made g memory places s
  Forms g memory places (Err f) = check_reply g (length memory) ≡ Err f
