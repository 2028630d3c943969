use Rattle.std.proofs.Common.{ℕ, List, map, Option, not, sym, ap, ◌∙◌}
use Rattle.std.specs.List.{flat_map, list_all}
use Rattle.std.proofs.lemmas.List.{with_items_is}
use Rattle.book.specs.declared.transaction.Posting.{Posting}
use Rattle.entry_balance.specs.Values.{Value}
use Rattle.entry_balance.specs.Fill.{filled_posting, filled_in_place, stays_single}
use Rattle.entry_balance.proofs.Filled.{filled-is}
use Rattle.entry_balance.proofs.InPlace.{in_place-is, none-from}
use Rattle.entry_balance.proofs.fill.fill.Goals as goal

pub returns-then-stay_single : goal.returns-then-stay_single
returns-then-stay_single c =
    let plan = c.args.plan.now in
    let items = c.deref_mut.ensures.value ∙ c.into_vec-postings.ensures in
    c.from_vec.ensures ∙ with_items_is c.into_vec-postings.result c.fill_in_place.new.postings (c.fill_in_place.auto.postings ∙ c.deref_mut.ensures.len)
    ∙ c.in_ok-fill_in_place.ensures ∙ ap (λ ps. map (filled_in_place plan.real.items plan.balanced.items) ps) items
    ∙ in_place-is plan.real.items plan.balanced.items c.args.postings
    (ap (list_all (stays_single plan.real.items plan.balanced.items)) (sym (c.deref.ensures.value ∙ c.into_vec-postings.ensures)) ∙ sym c.stay_single.ensures ∙ c.if-stay_single.true)
    ∙ ap (λ (cost : Option (List ℕ × Value)). flat_map (λ (p : Posting). filled_posting plan.real.items plan.balanced.items cost p p.amount) c.args.postings) (sym (none-from plan.recorded (c.is_none.ensures ∙ ap not c.if-is_none.true)))
    ∙ filled-is c.args.postings plan.real.items plan.balanced.items plan.recorded c.requires.real c.requires.balanced c.requires.free c.requires.recorded
