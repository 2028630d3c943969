use Rattle.std.proofs.Common.{◌≡◌, ◌+◌, ◌<◌, ◌≤◌, List, length, sym, ap, subst, ◌∙◌, arith}
use Rattle.hl_base.specs.Items.{items_of}
use Rattle.book.specs.declared.item.Placed.{Placed}
use Rattle.changed_texts.specs.OneEntry.{more_items}
use Rattle.live_journal.proofs.Limits.{many_items, not_past}
use Rattle.live_journal.proofs.Placing.{count_met, number_met}
use Rattle.live_journal.proofs.changing.judge_more.Goals as goal

pub more_items-more-requires : goal.more_items-more-requires
more_items-more-requires c =
    subst (λ (xs : List Placed). c.args.number < length xs) (sym c.as_slice.ensures) (number_met c.args.editing.now c.args.number c.args.loaded.now.items c.args.met.now c.requires.met)

pub returns-then-is_past-clause-fault : goal.returns-then-is_past-clause-fault
returns-then-is_past-clause-fault c =
    let e = c.args.editing.now in
    let more = c.more_items-more.ensures ∙ ap (λ (xs : List Placed). more_items c.args.number xs c.args.met.now) c.as_slice.ensures in
    let size : c.in_ok-size.size ≡ length (items_of e.new.now) = omega (arith, c.in_ok-size.ensures, c.len.ensures, more, count_met e c.args.number c.args.loaded.now.items c.args.met.now c.requires.met) in
    many_items e.year e.new.now c.in_ok-size.size size c.requires.short (sym c.is_past.ensures ∙ c.if-is_past.true)

pub returns-clause-good : goal.returns-clause-good
returns-clause-good c =
    let more = c.more_items-more.ensures ∙ ap (λ (xs : List Placed). more_items c.args.number xs c.args.met.now) c.as_slice.ensures in
    omega (arith, c.in_ok-size.ensures, c.len.ensures, more, count_met c.args.editing.now c.args.number c.args.loaded.now.items c.args.met.now c.requires.met, not_past 200000 c.in_ok-size.size (sym c.is_past.ensures ∙ c.if-is_past.false))
