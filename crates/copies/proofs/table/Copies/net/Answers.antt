use Rattle.std.proofs.Common.{◌≡◌, ℕ, ◌+◌, ◌*◌, ◌^◌, ◌<◌, ◌≤◌, get_or, take, ⊎_elim, mul-le-mul_right, pos, ◌+ℤ◌, nat_abs, sym, ap, ◌∙◌, subst, arith, w64, SFits, to_z, of_z, rules}
use Rattle.std.proofs.lemmas.Int.{to_z-of_z}
use Rattle.std.proofs.lemmas.List.{take_all}
use Rattle.ledger.specs.Figures.{figures}
use Rattle.std.proofs.lemmas.Bool.{cases_lt}
use Rattle.ledger.specs.declared.Ledger.{Ledger}
use Rattle.ledger.proofs.Listed.{get_or_figures, length_figures, figures_none}
use Rattle.book.specs.Rules.{total}
use Rattle.book.proofs.Shifts.{total_more}
use Rattle.book.proofs.Orders.{nat_abs_sum, fits64}
use Rattle.copies.specs.Model.{copies_sound}
use Rattle.copies.proofs.table.Copies.net.Goals as goal
use Rattle.copies.proofs.table.Copies.net.Goals.{After-figure-net, After-loop-figure}

-- the figure that is added
added : (g : _) (c : goal.After-figure-net g) → to_z w64 (of_z w64 c.figure-net.result) ≡ get_or (figures c.args.self.now.ledger c.args.desk) c.loop-figure.figure (pos 0)
added g c =
    let f : SFits w64 c.figure-net.result = search rules in
    to_z-of_z w64 c.figure-net.result f ∙ c.figure-net.ensures ∙ sym (get_or_figures c.args.self.now.ledger c.args.desk c.loop-figure.figure)

-- the net so far, and its bound
net_is : (g : _) (c : goal.After-figure-net g) → c.loop-figure.net ≡ total (take c.loop-figure.figure (figures c.args.self.now.ledger c.args.desk))
net_is g c = sym c.loop-figure.net-is ∙ c.loop-figure.invariant.0

small : (g : _) (c : goal.After-figure-net g) → nat_abs (c.loop-figure.net +ℤ to_z w64 (of_z w64 c.figure-net.result)) ≤ (c.loop-figure.figure + 1) * g.E.Entry.model.limit
small g c =
    let a = nat_abs_sum c.loop-figure.net (to_z w64 (of_z w64 c.figure-net.result)) in
    let b = subst (λ y. nat_abs y ≤ c.loop-figure.figure * g.E.Entry.model.limit) c.loop-figure.net-is c.loop-figure.invariant.1 in
    let w = subst (λ y. nat_abs y ≤ g.E.Entry.model.limit) (sym (added g c)) ((copies_sound g.E.Entry c.args.self.now).within c.args.desk c.loop-figure.figure) in
    omega (arith, a, b, w)

below : (n k : ℕ) → n ≤ 65535 → k < 2 ^ 47 → n * k < 2 ^ 63
below n k h f = let p : n * k ≤ 65535 * k = mul-le-mul_right k h in omega (arith, p, f)

fits : (g : _) (c : goal.After-figure-net g) → SFits w64 (c.loop-figure.net +ℤ to_z w64 (of_z w64 c.figure-net.result))
fits g c = fits64 _ ((c.loop-figure.figure + 1) * g.E.Entry.model.limit) (small g c)
    (below (c.loop-figure.figure + 1) g.E.Entry.model.limit (omega (arith, c.loop-figure-test.true, c.width-figure-end.type_inv)) g.E.Entry.model.fits)

pub overflow_add-net : goal.overflow_add-net
overflow_add-net g c = subst (λ y. SFits w64 (y +ℤ to_z w64 (of_z w64 c.figure-net.result))) (sym c.loop-figure.net-is) (fits g c)

pub loop-figure-preserved : goal.loop-figure-preserved
loop-figure-preserved g c =
    let l = c.args.self.now.ledger in
    let y = to_z w64 (of_z w64 c.figure-net.result) in
    let z = to_z-of_z w64 (c.loop-figure.net +ℤ y) (fits g c) in
    let t = total_more (figures l c.args.desk) c.loop-figure.figure in
    subst (λ x. (to_z w64 (of_z w64 (x +ℤ y)) ≡ total (take (c.loop-figure.figure + 1) (figures l c.args.desk))) × (nat_abs (to_z w64 (of_z w64 (x +ℤ y))) ≤ (c.loop-figure.figure + 1) * g.E.Entry.model.limit)) (sym c.loop-figure.net-is) (
      z ∙ ap (λ x. x +ℤ y) (net_is g c) ∙ ap (λ x. total (take c.loop-figure.figure (figures l c.args.desk)) +ℤ x) (added g c) ∙ sym t,
      subst (λ x. nat_abs x ≤ (c.loop-figure.figure + 1) * g.E.Entry.model.limit) (sym z) (small g c),
    )

-- as many figures as the ledger is wide, or more, are all of them
all_of : (l : Ledger) (d n : ℕ) → l.width ≤ n → take n (figures l d) ≡ figures l d
all_of l d n h = take_all n (figures l d)
    (⊎_elim (λ (k : d < l.desks). let e = length_figures l d k in omega arith) (λ (k : l.desks ≤ d). rw (figures_none l d k) (omega arith)) (cases_lt d l.desks))

pub returns : goal.returns
returns g c =
    let m = g.E.Entry.model in
    let l = c.args.self.now.ledger in
    let n : c.loop-figure.figure ≤ 65535 = omega (arith, c.loop-figure.auto.figure-end, c.width-figure-end.type_inv) in
    let wide : l.width ≤ c.loop-figure.figure = omega (arith, c.width-figure-end.ensures, c.loop-figure-test.false) in
    let b = below c.loop-figure.figure m.limit n m.fits in
    record {
      value = c.loop-figure.invariant.0 ∙ ap total (all_of l c.args.desk c.loop-figure.figure wide);
      small = omega (arith, b, c.loop-figure.invariant.1);
    }
