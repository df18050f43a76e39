-- The bounds of a ledger are kept: by making it, by an opening within its range, and by a step for each item counted.
use Rattle.std.proofs.Common.{◌≡◌, ℕ, ◌+◌, ◌*◌, ◌<◌, ◌≤◌, Bool, List, ℤ, nat_abs, mul-le-mul_left, arith, MutBor}
use Rattle.std.proofs.lemmas.Bool.Decides.{nat_tests}
use Rattle.ledger.specs.declared.Ledger.{Ledger}
use Rattle.ledger.specs.Figures.{count_at}
use Rattle.ledger.specs.Changes.{Made, Set, SetAll, Raised}
use Rattle.ledger.specs.Bounds.{Within, Counted}

pub within_made : (a b n w : ℕ) (m : MutBor (List ℕ)) (l : Ledger) → Made n w m l → Within a b l
within_made a b n w m l p = λ d i. rw p.figures (omega arith)

pub counted_made : (most n w : ℕ) (m : MutBor (List ℕ)) (l : Ledger) → Made n w m l → Counted most l
counted_made most n w m l p = λ d. rw p.counts (omega arith)

pub same_count : (l l' : Ledger) (d : ℕ) → l'.counts ≡ l.counts → l'.desks ≡ l.desks → count_at l' d ≡ count_at l d
same_count l l' d p q = cc

pub within_set_all : (a b : ℕ) (l : Ledger) (i : ℕ) (v : ℤ) (l' : Ledger) → SetAll l i v l' → nat_abs v ≤ a → Within a b l → Within a b l'
within_set_all a b l i v l' p h w = λ d j. grind (arith, nat_tests, p.figures d j, w d j, same_count l l' d p.counts p.shape.desks)

pub counted_set_all : (most : ℕ) (l : Ledger) (i : ℕ) (v : ℤ) (l' : Ledger) → SetAll l i v l' → Counted most l → Counted most l'
counted_set_all most l i v l' p h = λ d. rw (same_count l l' d p.counts p.shape.desks) (h d)

pub within_raised : (a b : ℕ) (l : Ledger) (d : ℕ) (r : Bool) (l' : Ledger) → Raised l d r l' → Within a b l → Within a b l'
within_raised a b l d r l' p w = λ e j.
    let m : count_at l e ≤ count_at l' e = grind (arith, nat_tests, p.counts e) in
    let n : b * count_at l e ≤ b * count_at l' e = mul-le-mul_left b m in
    rw (p.figures e j) (omega (arith, w e j))

pub counted_raised : (most : ℕ) (l : Ledger) (d : ℕ) (r : Bool) (l' : Ledger) → Raised l d r l' → count_at l d < most → Counted most l → Counted most l'
counted_raised most l d r l' p h c = λ e. grind (arith, nat_tests, p.counts e, c e)

pub within_set : (a b : ℕ) (l : Ledger) (d i : ℕ) (v : ℤ) (r : Bool) (l' : Ledger) → Set l d i v r l' → nat_abs v ≤ a + b * count_at l d → Within a b l → Within a b l'
within_set a b l d i v r l' p h w = λ e j. grind (arith, nat_tests, p.figures e j, w e j, same_count l l' e p.counts p.shape.desks)

pub counted_set : (most : ℕ) (l : Ledger) (d i : ℕ) (v : ℤ) (r : Bool) (l' : Ledger) → Set l d i v r l' → Counted most l → Counted most l'
counted_set most l d i v r l' p h = λ e. rw (same_count l l' e p.counts p.shape.desks) (h e)
