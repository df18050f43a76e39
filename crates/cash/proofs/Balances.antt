-- The sum of a desk's balances, and the last that a balance pays.
use Rattle.std.proofs.Common.{◌≡◌, ℕ, ◌<◌, not, List, length, ℤ, pos, ◌+ℤ◌, neg_ℤ, is_some, None, ap, ◌∙◌, arith}
use lib.IntN.{+ℤ_idr, +ℤ_invr}
use Rattle.std.proofs.lemmas.Bool.{and_parts, le-leb, lt-leb}
use Rattle.std.proofs.lemmas.Bool.Decides.{nat_tests}
use Rattle.desks.specs.Firsts.{first}
use Rattle.book.specs.Items.{byte, quantity}
use Rattle.book.specs.Rules.{total, at_place}
use Rattle.book.proofs.Shifts.{total_shifted, changes, changes_sum, changes_at_place}
use Rattle.book.proofs.Orders.{none_from}
use Rattle.cash.specs.Payments.{wrong_fields}
use Rattle.cash.specs.Cash.{covers, moves}
use Rattle.cash.specs.Sums.{KeepsSum, PaysToTheLast}

-- a well-formed payment goes to a desk of the group
pub payee_known : (n o : ℕ) (x : List ℕ) → first (wrong_fields n o x) ≡ None → byte 1 x < n
payee_known n o x h = grind (arith, nat_tests)

pub keeps_sum : (n : ℕ) → KeepsSum n
keeps_sum n o x f fit a =
    let w = none_from (first (wrong_fields n o x)) (and_parts (not (is_some (first (wrong_fields n o x)))) (covers o x f) a).0 in
    let p = payee_known n o x w in
    let q : ℤ = pos (quantity x) in
    let l : length f ≡ n = fit.figures in
    total_shifted f (moves o x)
    ∙ ap (λ z. total f +ℤ z)
    (ap (λ k. changes k (moves o x)) l
    ∙ changes_sum n (at_place (byte 1 x) q) (at_place o (neg_ℤ q))
    ∙ ap (λ z. z +ℤ changes n (at_place o (neg_ℤ q))) (changes_at_place n (byte 1 x) q p)
    ∙ ap (λ z. q +ℤ z) (changes_at_place n o (neg_ℤ q) fit.origin)
    ∙ +ℤ_invr q)
    ∙ +ℤ_idr (total f)

pub pays_to_the_last : (n : ℕ) → PaysToTheLast n
pays_to_the_last n o x f w = record {
  exactly = λ e. rw (w, e) (le-leb (quantity x) (quantity x) (omega arith));
  one_more = λ b e g. rw (w, e) (lt-leb (quantity x) b (omega arith));
}
