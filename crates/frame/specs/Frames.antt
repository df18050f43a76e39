-- The parts of a frame as plain values, and its bytes. Assumes nothing.
use Rattle.std.specs.Prelude.{ℕ, List, ◌∷◌}
use Rattle.frame.specs.declared.kinds.Kind.{Kind}
use Rattle.frame.specs.declared.kinds.Kind.TheVariants as kind
use Rattle.frame.specs.declared.frame.Body.{Body}
use Rattle.frame.specs.declared.frame.Frame.{Frame}
use Rattle.frame.specs.declared.frame.Frame.TheVariants.{Init, Echo, Ready, Witness}
use Rattle.frame.specs.Kinds.{code_of}

abbrev pub frame_kind : Frame → Kind
frame_kind (Init b) = kind.Init
frame_kind (Echo b) = kind.Echo
frame_kind (Ready b) = kind.Ready
frame_kind (Witness b) = kind.Witness

-- what every kind has
abbrev pub frame_body : Frame → Body
frame_body (Init b) = b
frame_body (Echo b) = b
frame_body (Ready b) = b
frame_body (Witness b) = b

abbrev pub frame_origin : Frame → ℕ
frame_origin f = (frame_body f).origin

abbrev pub frame_number : Frame → ℕ
frame_number f = (frame_body f).number

abbrev pub frame_content : Frame → List ℕ
frame_content f = (frame_body f).content.now

-- what a frame says, whatever holds its content
pub record Saying : Type 0 where
  pub kind : Kind
  pub origin : ℕ
  pub number : ℕ
  pub content : List ℕ

-- what a frame of a kind says
abbrev pub says : Kind → Body → Saying
says k b = record { kind = k; origin = b.origin; number = b.number; content = b.content.now }

abbrev pub saying : Frame → Saying
saying f = says (frame_kind f) (frame_body f)

-- the bytes of a frame: the code of its kind, its origin and its number, then its content
abbrev pub bytes_of : Frame → List ℕ
bytes_of f = code_of (frame_kind f) ∷ frame_origin f ∷ frame_number f ∷ frame_content f
