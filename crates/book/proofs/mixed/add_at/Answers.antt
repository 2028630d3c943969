use Rattle.std.proofs.Common.{◌≡◌, true, false, sym, subst, ap, ◌∙◌, IsTrue, ℕ, List, set, Vec, Global, Option}
use Rattle.std.proofs.lemmas.List.{get_or_default}
use Rattle.std.proofs.lemmas.Bool.{false≢true}
use Rattle.hl_num.specs.declared.decimal.Range.{Range}
use Rattle.hl_num.specs.Decimal.{Decimal}
use Rattle.book.specs.Mixed.{plus, is_zero, fits_with}
use Rattle.book.proofs.Added.{held-at, added-gone, added-changed, is_zero-true, is_zero-false}
use Rattle.book.proofs.mixed.add_at.Goals as goal
use Rattle.book.proofs.mixed.add_at.Goals.{then-is_zero, else-is_zero}

pub returns-after-is_zero-clause-ok : goal.returns-after-is_zero-clause-ok
returns-after-is_zero-clause-ok c =
    let gone = added-gone c.args.entries.now.items c.args.symbol.now c.args.at c.args.value c.requires.rising c.requires.place c.index.result.now c.index.ensures in
    let changed = added-changed c.args.entries.now.items c.args.symbol.now c.args.at c.args.value c.requires.rising c.requires.place c.index.result.now c.index.ensures in
    elim c.if-is_zero.branch [
      | then-is_zero w ↦
          let none : is_zero (plus c.index.result.now.1 c.args.value) ≡ true = subst (λ (d : Decimal). is_zero d ≡ true) c.in-Ok.ensures.value (is_zero-true c.in-Ok.sum (c.is_zero.ensures.mantissa.0 w.if-is_zero.true)) in
          ap (λ (v : Vec (List ℕ × Decimal) Global). v.items) w.entries-is ∙ w.take_out.ensures ∙ sym (gone none)
      | else-is_zero w ↦
          let some : is_zero (plus c.index.result.now.1 c.args.value) ≡ false = subst (λ (d : Decimal). is_zero d ≡ false) c.in-Ok.ensures.value (is_zero-false c.in-Ok.sum (λ e. false≢true (sym w.if-is_zero.false ∙ c.is_zero.ensures.mantissa.1 e))) in
          let same : w.index_mut.result.now ≡ c.index.result.now =
          w.index_mut.ensures.value ∙ get_or_default c.args.entries.now.items c.args.at _ c.index.result.now c.requires.place.within ∙ sym c.index.ensures in
          ap (λ (v : Vec (List ℕ × Decimal) Global). v.items) w.entries-is
          ∙ ap (λ (e : List ℕ × Decimal). set c.args.entries.now.items c.args.at (e.0, c.in-Ok.sum)) same
          ∙ ap (λ (d : Decimal). set c.args.entries.now.items c.args.at (c.index.result.now.0, d)) c.in-Ok.ensures.value
          ∙ sym (changed some)
    ]

pub returns-after-is_zero-clause-fits : goal.returns-after-is_zero-clause-fits
returns-after-is_zero-clause-fits c =
    let there = held-at c.args.entries.now.items c.args.symbol.now c.args.at c.args.value c.requires.rising c.requires.place c.index.result.now c.index.ensures in
    subst (λ (h : Option Decimal). IsTrue (fits_with h c.args.value)) (sym there) (sym c.in-Ok.ensures.fits)

pub returns-in-Err-clause-fault : goal.returns-in-Err-clause-fault
returns-in-Err-clause-fault c =
    let there = held-at c.args.entries.now.items c.args.symbol.now c.args.at c.args.value c.requires.rising c.requires.place c.index.result.now c.index.ensures in
    let a : c.in-Err.range.a ≡ c.index.result.now.1 = ap (λ (r : Range). r.a) c.in-Err.ensures.range in
    let b : c.in-Err.range.b ≡ c.args.value = ap (λ (r : Range). r.b) c.in-Err.ensures.range in
    let fits = c.in-Err.ensures.fits in
    (cc (there, a), b, cc (a, b, fits))
