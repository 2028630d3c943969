use Rattle.std.proofs.Common.{◌≡◌, ◌<◌, List, length, Ok, sym, ap, subst, ◌∙◌, arith}
use Rattle.book.specs.declared.item.Placed.{Placed}
use Rattle.journal_reader.specs.Items.{items_in}
use Rattle.live_journal.proofs.Placing.{entry_inside, met_at, short_site, unread_at}
use Rattle.live_journal.proofs.changing.read_inside.Goals as goal

pub read_met-requires-clause-number : goal.read_met-requires-clause-number
read_met-requires-clause-number g c =
    subst (λ (xs : List Placed). c.args.number < length xs) (sym c.as_slice.ensures) (entry_inside c.args.editing.now c.args.number c.args.loaded.now c.requires.there c.requires.loaded)

pub read_met-requires-clause-items : goal.read_met-requires-clause-items
read_met-requires-clause-items g c = rw c.as_slice.ensures c.requires.loaded.read

pub read_met-requires-clause-entry : goal.read_met-requires-clause-entry
read_met-requires-clause-entry g c = c.requires.one

pub read_met-requires-clause-few : goal.read_met-requires-clause-few
read_met-requires-clause-few g c = short_site c.args.editing.now c.args.number c.requires.there c.requires.loaded.few_bytes c.requires.short

pub returns-clause-met : goal.returns-clause-met
returns-clause-met g c =
    let there = c.requires.there in
    met_at c.args.editing.now c.args.number c.args.loaded.now.items c.read_met.result there
    (rw (← c.as_slice.ensures) (c.read_met.ensures.replaces there.piece there.of)) (c.read_met.ensures.by there.piece there.of) (rw (← c.as_slice.ensures) c.read_met.ensures.met)

pub returns-clause-fault : goal.returns-clause-fault
returns-clause-fault g c =
    let there = c.requires.there in
    unread_at c.args.editing.now c.args.number c.read_met.result there (c.read_met.ensures.fault there.piece there.of)

pub returns-clause-counts : goal.returns-clause-counts
returns-clause-counts g c = record { read = c.read_met.ensures.bound; others = c.read_met.ensures.others }
