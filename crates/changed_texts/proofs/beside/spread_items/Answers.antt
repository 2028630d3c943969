use Rattle.std.proofs.Common.{List, length, sym, ap, subst, ◌∙◌}
use Rattle.book.specs.declared.item.Placed.{Placed}
use Rattle.changed_texts.specs.OneEntry.{IsSpread}
use Rattle.changed_texts.proofs.Joints.{written_back}
use Rattle.changed_texts.proofs.beside.spread_items.Goals as goal

pub returns : goal.returns
returns c =
    let parts = c.args.parts in
    let s = c.put_entry-ahead in
    let from = c.deref_mut.ensures.value ∙ c.into_vec-all.ensures in
    let spread = subst (λ (xs : List Placed). IsSpread c.args.number xs c.args.by parts.before parts.placed parts.behind s.new.items s.result.ahead s.result.after) from s.ensures in
    subst (λ (xs : List Placed). IsSpread c.args.number c.args.items c.args.by parts.before parts.placed parts.behind xs s.result.ahead s.result.after)
    (sym (written_back s.new.items c.into_vec-all.result.items c.into_vec-all.result.len (s.ensures.count ∙ ap length c.deref_mut.ensures.value ∙ sym c.into_vec-all.result.ok.0))) spread
