-- The laws of cash, shown of its rules. Assumes nothing.
use Rattle.std.specs.Prelude.{◌≡◌, ℕ, ◌<◌, true, cond, not, ◌≢◌, List, length, ℤ, pos, ◌+ℤ◌, neg_ℤ, is_some, ◌==◌, int_le, slice_index_or}
use Rattle.std.proofs.Common.{sym, ap, subst, ◌∙◌}
use Rattle.std.proofs.Math.IntN.{+ℤ_idr}
use Rattle.std.proofs.lemmas.Bool.{and_parts, and_from}
use Rattle.desks.specs.Firsts.{first}
use Rattle.book.specs.Items.{byte, quantity}
use Rattle.book.specs.Rules.{Laws, shifted, at_place}
use Rattle.book.proofs.Shifts.{length_shifted, get_or_shifted, either_order}
use Rattle.book.proofs.Orders.{none_from, int_le_more, at_place_pos, at_place_other}
use Rattle.cash.specs.Payments.{wrong_fields}
use Rattle.cash.specs.Cash.{cash, covers, moves}

-- another desk's payment takes nothing from a desk
gains : (o p : ℕ) (x : List ℕ) → p ≢ o → moves o x p ≡ pos (cond (p == byte 1 x) (quantity x) 0)
gains o p x h =
    ap (λ z. at_place (byte 1 x) (pos (quantity x)) p +ℤ z) (at_place_other o p (neg_ℤ (pos (quantity x))) h)
    ∙ +ℤ_idr (at_place (byte 1 x) (pos (quantity x)) p)
    ∙ at_place_pos (byte 1 x) (quantity x) p

-- so it still covers what it covered
still_covers : (o p : ℕ) (x y : List ℕ) (f : List ℤ) → p ≢ o → p < length f → covers p y f ≡ true → covers p y (shifted f (moves o x)) ≡ true
still_covers o p x y f h l c =
    ap (int_le (pos (quantity y))) (get_or_shifted f (moves o x) p l ∙ ap (λ z. slice_index_or f p (pos 0) +ℤ z) (gains o p x h))
    ∙ int_le_more (pos (quantity y)) (slice_index_or f p (pos 0)) (cond (p == byte 1 x) (quantity x) 0) c

pub cash_lawful : (n : ℕ) → Laws n (cash n)
cash_lawful n = record {
  well_formed = λ o x f fit a. none_from (first (wrong_fields n o x)) (and_parts (not (is_some (first (wrong_fields n o x)))) (covers o x f) a).0;
  keeps_width = λ o x f fit a. length_shifted f (moves o x) ∙ fit.figures;
  still_admitted = λ o p x y f fit fit' ne a a'.
      let parts = and_parts (not (is_some (first (wrong_fields n p y)))) (covers p y f) a' in
      and_from (not (is_some (first (wrong_fields n p y)))) (covers p y (shifted f (moves o x))) parts.0
      (still_covers o p x y f (λ e. ne (sym e)) (subst (λ k. p < k) (sym fit'.figures) fit'.origin) parts.1);
  either_order = λ o p x y f fit fit' ne a a'. either_order f (moves o x) (moves p y);
}
