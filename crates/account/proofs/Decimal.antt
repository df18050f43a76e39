-- The decimal text of a number writes it, and no other text does.
use Rattle.std.proofs.Common.{◌≡◌, ℕ, suc, ◌^◌, ◌<◌, List, ◌∷◌, length, get_or, pos, negsuc, decimal, sym, refl, ap, ◌∙◌, arith, rules}
use Rattle.std.proofs.lemmas.Str.Parse.{IsNumeralModel, numerals_by_fold}
use Rattle.std.proofs.lemmas.Fmt.{decimal_digit, decimal_nonempty, first_decimal, digits_decimal, digits_value-decimal, decimal-digits_value}
use Rattle.account.specs.Numbers.{Digits, value_on, Writes, NumbersAreWritten}

own : IsNumeralModel Digits (value_on 0)
own = numerals_by_fold _ (search rules) value_on (search rules)

no_front_zero : (n : ℕ) → n < 2 ^ 64 → get_or (decimal n) 0 0 ≡ 48 → length (decimal n) ≡ 1
no_front_zero n h e = grind (arith, first_decimal, decimal_digit)

written : (n : ℕ) → n < 2 ^ 64 → Writes (decimal n) n
written n h = record { digits = digits_decimal own n h; some = decimal_nonempty n h; value = digits_value-decimal own n h; shortest = no_front_zero n h }

only : (n : ℕ) (ds : List ℕ) → n < 2 ^ 64 → Writes ds n → ds ≡ decimal n
only n ds h w = sym (decimal-digits_value own ds w.digits w.some w.shortest (omega (arith, w.value))) ∙ ap decimal w.value

pub numbers_are_written : NumbersAreWritten
numbers_are_written (pos n) h = (written n h, λ bs w. only n bs h w)
numbers_are_written (negsuc n) h =
    let l : suc n < 2 ^ 64 = omega arith in
    ((decimal (suc n), refl, written (suc n) l), λ bs (ds, e, w). e ∙ ap (λ xs. 45 ∷ xs) (only (suc n) ds l w))
