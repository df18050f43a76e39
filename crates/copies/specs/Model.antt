-- What a value of copies means: the figures and counts in its ledger. Assumes nothing.
use Rattle.std.specs.Prelude.{◌≤◌, ◌*◌, unsigned_abs}
use Rattle.std.proofs.Common.{sym, subst, ◌∙◌, mul-le-mul_left, arith}
use Rattle.ledger.specs.Figures.{count_at, figures, memory_of}
use Rattle.ledger.proofs.Listed.{length_figures, figures_none, get_or_figures}
use Rattle.book.specs.Model.{BookModel, Sound, most_items}
use Rattle.copies.specs.declared.entry.Entry.{Ghosts}
use Rattle.copies.specs.declared.table.Copies.{Copies}

module _ {E : Type 0} (e : Ghosts E) where
  pub copies_sound : (b : Copies E e) → Sound (e.model.rules b.ledger.desks) e.model.limit b.ledger.desks (figures b.ledger) (count_at b.ledger)
  copies_sound b = record {
    desks_low = b.sized.0;
    desks_high = b.whole.1;
    width = λ d h. length_figures b.ledger d h ∙ b.sized.1;
    only_desks = λ d h. figures_none b.ledger d h;
    within = λ d i.
        subst (λ z. unsigned_abs z ≤ e.model.limit) (sym (get_or_figures b.ledger d i))
        (let h = b.within d i in let k = b.counted d in
        let m : e.model.step * count_at b.ledger d ≤ e.model.step * most_items = mul-le-mul_left e.model.step k in
        let r = e.model.reached in omega arith);
    counted = b.counted;
  }

  abbrev pub copies_model : BookModel (Copies E e)
  copies_model = record {
    rules = e.model.rules;
    limit = e.model.limit;
    bytes = e.model.bytes;
    desks = λ b. b.ledger.desks;
    figures = λ b. figures b.ledger;
    count = λ b. count_at b.ledger;
    memory = λ b. memory_of b.ledger;
    laws = e.model.laws;
    sound = copies_sound;
  }
