-- Two payments that meet what the laws of cash ask, and what entering them gives. Assumes nothing.
use Rattle.std.specs.Prelude.{◌≡◌, ℕ, true, false, List, [], ◌∷◌, ℤ, pos}
use Rattle.book.specs.Rules.{Fit}
use Rattle.cash.specs.Cash.{cash}

-- balances of two desks; desk 0 pays 100 to desk 1, desk 1 pays 30 to desk 0
abbrev pub balances : List ℤ
balances = pos 100 ∷ pos 50 ∷ []

abbrev pub all_out : List ℕ
all_out = 3 ∷ 1 ∷ 0 ∷ 0 ∷ 0 ∷ 100 ∷ 0 ∷ 0 ∷ []

abbrev pub one_too_many : List ℕ
one_too_many = 3 ∷ 1 ∷ 0 ∷ 0 ∷ 0 ∷ 101 ∷ 0 ∷ 0 ∷ []

abbrev pub back : List ℕ
back = 3 ∷ 0 ∷ 0 ∷ 0 ∷ 0 ∷ 30 ∷ 0 ∷ 0 ∷ []

pub record Sample : Type 0 where
  pub first_fits : Fit 2 (cash 2) 0 all_out balances
  pub second_fits : Fit 2 (cash 2) 1 back balances
  pub first_admitted : (cash 2).admits 0 all_out balances ≡ true
  pub second_admitted : (cash 2).admits 1 back balances ≡ true
  pub not_admitted : (cash 2).admits 0 one_too_many balances ≡ false
  pub both : (cash 2).entered 1 back ((cash 2).entered 0 all_out balances) ≡ pos 30 ∷ pos 120 ∷ []
