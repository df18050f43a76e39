use Rattle.std.proofs.Common.{◌≡◌, ◌^◌, ◌<◌, ◌≤◌, ℕ, ℤ, pos, ◌-ℤ◌, neg_ℤ, nat_abs, ap, ◌∙◌, w64, SFits, to_z, of_z, subst, rules, arith}
use lib.IntN.{+ℤ_idl}
use Rattle.std.proofs.lemmas.Int.{to_z-of_z, ints}
use Rattle.std.specs.Result.{is_ok}
use Rattle.ledger.specs.Changes.{Added}
use Rattle.book.proofs.Orders.{fits64}
use Rattle.copies.specs.Carrying.{Carried}
use Rattle.copies.proofs.Carry.{Kept, given, paid, reach, still_sized}
use Rattle.copies.proofs.table.Copies.carry_out.Goals as goal
use Rattle.copies.proofs.table.Copies.carry_out.Goals.{After-add-in-Some, In_default}

-- an amount that is at most a step, taken away
taken : (z : ℤ) (k : ℕ) → nat_abs z ≤ k → k < 2 ^ 63 → SFits w64 z → to_z w64 (of_z w64 (pos 0 -ℤ to_z w64 (of_z w64 z))) ≡ neg_ℤ z
taken z k h g f =
    ap (λ y. to_z w64 (of_z w64 (pos 0 -ℤ y))) (to_z-of_z w64 z f)
    ∙ to_z-of_z w64 (pos 0 -ℤ z) (fits64 (pos 0 -ℤ z) k (omega (arith, ints)) g)
    ∙ +ℤ_idl (neg_ℤ z)

both : (g : _) (c : goal.After-add-in-Some g) → Carried c.args.self.now.ledger c.args.desk c.args.movement c.add-in-Some.new.self × Kept g.E.Entry.model.opening g.E.Entry.model.step c.add-in-Some.new.self
both g c =
    let b = c.args.self.now in
    let a = c.args.movement.amount in
    let f : SFits w64 a = search rules in
    let q = subst (λ y. Added c.raise.new.self c.args.desk c.args.movement.to y (is_ok c.add.result) c.add.new.self) (to_z-of_z w64 a f) c.add.ensures.change in
    let h = reach g.E.Entry.model in
    let small : g.E.Entry.model.step < 2 ^ 63 = omega (arith, h) in
    let n = taken a _ c.requires.bounded.amount small f in
    let v = subst (λ y. Added c.add.new.self c.args.desk c.in-Some.from y (is_ok c.add-in-Some.result) c.add-in-Some.new.self) n c.add-in-Some.ensures.change in
    paid _ _ b.ledger c.args.desk c.args.movement _ _ _ _ b.whole b.counted b.within (reach g.E.Entry.model) c.requires c.raise.ensures.change q c.in-Some.from c.in-Some.is _ _ v

one : (g : _) (c : goal.In_default g) → Carried c.args.self.now.ledger c.args.desk c.args.movement c.add.new.self × Kept g.E.Entry.model.opening g.E.Entry.model.step c.add.new.self
one g c =
    let b = c.args.self.now in
    let a = c.args.movement.amount in
    let f : SFits w64 a = search rules in
    let q = subst (λ y. Added c.raise.new.self c.args.desk c.args.movement.to y (is_ok c.add.result) c.add.new.self) (to_z-of_z w64 a f) c.add.ensures.change in
    given _ _ b.ledger c.args.desk c.args.movement _ _ _ _ b.whole b.counted b.within (reach g.E.Entry.model) c.requires c.raise.ensures.change q c.in_default.is

pub invariant_of-self : goal.invariant_of-self
invariant_of-self g c =
    let b = c.args.self.now in
    let k = both g c in
    record { whole = k.1.whole; sized = still_sized g.E.Entry.model b.ledger _ k.0.shape b.sized; counted = k.1.counted; within = k.1.within }

pub invariant_of-self-in_default : goal.invariant_of-self-in_default
invariant_of-self-in_default g c =
    let b = c.args.self.now in
    let k = one g c in
    record { whole = k.1.whole; sized = still_sized g.E.Entry.model b.ledger _ k.0.shape b.sized; counted = k.1.counted; within = k.1.within }

pub returns-in-Some : goal.returns-in-Some
returns-in-Some g c = (both g ((goal.at.returns-in-Some g c).After-add-in-Some)).0

pub returns-in_default : goal.returns-in_default
returns-in_default g c = (one g ((goal.at.returns-in_default g c).In_default)).0
