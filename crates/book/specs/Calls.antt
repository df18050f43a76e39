-- What each call of a book answers and changes, for every input. Assumes nothing.
use Rattle.std.specs.Prelude.{◌≡◌, ℕ, ◌+◌, ◌<◌, Bool, not, ◌||◌, ◌≢◌, List, [], ◌∷◌, length, drop, replicate, ℤ, pos, is_some, Some, None, Ok, Err, Option, Result, int_lt, nat_le, nat_lt, slice_index_or, slice_set}
use Rattle.std.specs.Option.{unwrap_or}
use Rattle.desks.specs.declared.faults.Parameter.TheVariants.{Desks}
use Rattle.desks.specs.declared.faults.FormFault.TheVariants.{Range, Memory}
use Rattle.desks.specs.Firsts.{Tests, first, unless, Unless}
use Rattle.desks.specs.Forming.{outside}
use Rattle.book.specs.declared.faults.BookFault.{BookFault}
use Rattle.book.specs.declared.faults.BookFault.TheVariants.{Form, Desk, Figure, Malformed, Amount, NotAdmitted, Full}
use Rattle.book.specs.Rules.{Rules}
use Rattle.book.specs.Model.{BookModel, most_items}

-- an opening: a figure that takes one, and an amount in its range
abbrev pub opening_tests : Rules → ℕ → ℤ → Tests BookFault
opening_tests b i a = (nat_le b.openable i, Figure i) ∷ (int_lt a b.least || int_lt b.most a, Amount) ∷ []

module _ {B : Type 0} (m : BookModel B) where
  -- the rules of a value
  abbrev pub rules_of : B → Rules
  rules_of b = m.rules (m.desks b)

  -- the bytes needed: 2 to 16 desks
  abbrev pub desks_tests : ℕ → Tests BookFault
  desks_tests n = (outside 2 16 n, Form (Range Desks)) ∷ []

  abbrev pub bytes_reply : ℕ → Result ℕ BookFault
  bytes_reply n = unless (first (desks_tests n)) (m.bytes n)

  -- forming: the desks, then the memory
  abbrev pub form_tests : ℕ → ℕ → Tests BookFault
  form_tests n size = (outside 2 16 n, Form (Range Desks)) ∷ (nat_lt size (m.bytes n), Form (Memory (m.bytes n))) ∷ []

  -- a new book: all figures and counts are 0, and so is the whole memory handed in
  pub record Made (n : ℕ) (memory : List ℕ) (b : B) : Type 0 where
    pub desks : m.desks b ≡ n
    pub figures : (d : ℕ) → d < n → m.figures b d ≡ replicate (m.rules n).width (pos 0)
    pub count : (d : ℕ) → m.count b d ≡ 0
    pub cleared : m.memory b ≡ replicate (length memory) 0

  -- the figure is the amount, for all desks alike, and nothing else changed
  pub record Opened (b : B) (i : ℕ) (a : ℤ) (b' : B) : Type 0 where
    pub desks : m.desks b' ≡ m.desks b
    pub figures : (d : ℕ) → m.figures b' d ≡ slice_set (m.figures b d) i a
    pub count : (d : ℕ) → m.count b' d ≡ m.count b d
    pub memory : length (m.memory b') ≡ length (m.memory b)
    pub behind : drop (m.bytes (m.desks b)) (m.memory b') ≡ drop (m.bytes (m.desks b)) (m.memory b)

  abbrev pub Opens : B → ℕ → ℤ → Result (Unit {0}) BookFault → B → Type 0
  Opens b i a r b' = Unless (first (opening_tests (rules_of b) i a)) b r b' (Opened b i a b')

  -- whether an item is malformed
  abbrev pub malformed_reply : B → ℕ → List ℕ → Result (Option ℕ) BookFault
  malformed_reply b o x = unless (first ((nat_le (m.desks b) o, Desk o) ∷ [])) ((rules_of b).wrong o x)

  -- whether a desk's book admits an item of an origin
  abbrev pub pair_tests : B → ℕ → ℕ → Tests BookFault
  pair_tests b d o = (nat_le (m.desks b) d, Desk d) ∷ (nat_le (m.desks b) o, Desk o) ∷ []

  abbrev pub admits_reply : B → ℕ → ℕ → List ℕ → Result Bool BookFault
  admits_reply b d o x = unless (first (pair_tests b d o)) ((rules_of b).admits o x (m.figures b d))

  abbrev pub enter_tests : B → ℕ → ℕ → List ℕ → Tests BookFault
  enter_tests b d o x =
      (nat_le (m.desks b) d, Desk d)
      ∷ (nat_le (m.desks b) o, Desk o)
      ∷ (is_some ((rules_of b).wrong o x), Malformed (unwrap_or ((rules_of b).wrong o x) 0))
      ∷ (not ((rules_of b).admits o x (m.figures b d)), NotAdmitted o)
      ∷ (nat_le most_items (m.count b d), Full d)
      ∷ []

  -- the item is entered at that desk, and nothing else changed
  pub record Entered (b : B) (d o : ℕ) (x : List ℕ) (b' : B) : Type 0 where
    pub desks : m.desks b' ≡ m.desks b
    pub figures : m.figures b' d ≡ (rules_of b).entered o x (m.figures b d)
    pub count : m.count b' d ≡ m.count b d + 1
    pub others : (e : ℕ) → e ≢ d → (m.figures b' e ≡ m.figures b e) × (m.count b' e ≡ m.count b e)
    pub memory : length (m.memory b') ≡ length (m.memory b)
    pub behind : drop (m.bytes (m.desks b)) (m.memory b') ≡ drop (m.bytes (m.desks b)) (m.memory b)

  abbrev pub Enters : B → ℕ → ℕ → List ℕ → Result (Unit {0}) BookFault → B → Type 0
  Enters b d o x r b' = Unless (first (enter_tests b d o x)) b r b' (Entered b d o x b')

  -- a figure of a desk
  abbrev pub figure_tests : B → ℕ → ℕ → Tests BookFault
  figure_tests b d i = (nat_le (m.desks b) d, Desk d) ∷ (nat_le (rules_of b).width i, Figure i) ∷ []

  abbrev pub figure_reply : B → ℕ → ℕ → Result ℤ BookFault
  figure_reply b d i = unless (first (figure_tests b d i)) (slice_index_or (m.figures b d) i (pos 0))

  -- how many items a desk entered
  abbrev pub desk_tests : B → ℕ → Tests BookFault
  desk_tests b d = (nat_le (m.desks b) d, Desk d) ∷ []

  abbrev pub count_reply : B → ℕ → Result ℕ BookFault
  count_reply b d = unless (first (desk_tests b d)) (m.count b d)

  -- forming: refused, or a new book
  abbrev pub Forms : ℕ → List ℕ → Result B BookFault → Type 0
  Forms n memory (Ok b) = (first (form_tests n (length memory)) ≡ None) × Made n memory b
  Forms n memory (Err f) = first (form_tests n (length memory)) ≡ Some f

  -- a hedge need, as the desk's figures determine it
  abbrev pub need_reply : (List ℤ → ℤ) → B → ℕ → Result ℤ BookFault
  need_reply weigh b d = unless (first (desk_tests b d)) (weigh (m.figures b d))
