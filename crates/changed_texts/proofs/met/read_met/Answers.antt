use Rattle.std.proofs.lemmas.Result.{err_from_is_err_and}
use Rattle.text_ends.specs.Ends.{items_at}
use Rattle.changed_texts.proofs.Rounding.{by_met, lines_room, met_is, not_read, places_fit, replaces_met}
use Rattle.changed_texts.proofs.Shapes.{said_around}
use Rattle.changed_texts.proofs.Sites.{bytes_fit, lies_within}
use Rattle.changed_texts.proofs.met.read_met.Goals as goal

pub read_entries-requires : goal.read_entries-requires
read_entries-requires g c =
    let site = c.args.site.now in
    let old = c.item_at-old.result.now in
    lines_room site.text.now c.args.bytes.now old.piece c.saturating_sub-lines.result c.saturating_sub-lines.ensures
    (lies_within site.year site.text.now site.items.now site.number old c.requires.items c.requires.number c.item_at-old.ensures) c.requires.few

pub met_of-requires-clause-old : goal.met_of-requires-clause-old
met_of-requires-clause-old g c =
    let site = c.args.site.now in
    let old = c.item_at-old.result.now in
    bytes_fit site.text.now old.piece (lies_within site.year site.text.now site.items.now site.number old c.requires.items c.requires.number c.item_at-old.ensures)

pub met_of-requires-clause-said : goal.met_of-requires-clause-said
met_of-requires-clause-said g c =
    said_around c.args.site.now.year (items_at c.split_at.result.0.now) c.saturating_sub-lines.result c.args.bytes.now c.in_ok-said.said c.requires.entry c.in_ok-said.ensures.value

pub met_of-requires-clause-places : goal.met_of-requires-clause-places
met_of-requires-clause-places g c =
    let site = c.args.site.now in
    let old = c.item_at-old.result.now in
    places_fit site.year (items_at c.split_at.result.0.now) c.saturating_sub-lines.result site.text.now c.args.bytes.now c.in_ok-said.said old.piece c.in_ok-said.ensures.value
    (bytes_fit site.text.now old.piece (lies_within site.year site.text.now site.items.now site.number old c.requires.items c.requires.number c.item_at-old.ensures)) c.requires.few

pub returns-in_err-said-clause-fault : goal.returns-in_err-said-clause-fault
returns-in_err-said-clause-fault g c =
    let q = err_from_is_err_and c.from_residual.result c.from_residual.ensures.1 in
    let site = c.args.site.now in
    rw (q.1, q.2) (λ p of.
    not_read site.year site.text.now c.args.bytes.now site.items.now c.split_at.result.0.now site.number c.item_at-old.result.now p c.requires.items of c.requires.entry c.item_at-old.ensures
    c.split_at.ensures.front c.saturating_sub-lines.result c.saturating_sub-lines.ensures c.in_err-said.field-0.0 c.in_err-said.ensures.value)

pub returns-clause-replaces : goal.returns-clause-replaces
returns-clause-replaces g c = λ p of.
    let site = c.args.site.now in
    let old = c.item_at-old.result.now in
    replaces_met site.year site.text.now c.args.bytes.now site.items.now c.split_at.result.0.now site.number old p c.requires.items of c.requires.entry c.item_at-old.ensures
    c.split_at.ensures.front c.saturating_sub-lines.result c.saturating_sub-lines.ensures c.in_ok-said.said c.in_ok-met.met c.in_ok-said.ensures.value c.in_ok-met.ensures.around c.in_ok-met.ensures.by
    (met_is site.year site.text.now c.args.bytes.now site.items.now c.in_ok-said.said (items_at c.split_at.result.0.now) c.saturating_sub-lines.result site.number old.piece.at c.in_ok-met.met
    c.requires.items c.in_ok-said.ensures.value c.requires.few c.in_ok-met.ensures.around c.in_ok-met.ensures.room)

pub returns-clause-by : goal.returns-clause-by
returns-clause-by g c = λ p of.
    let site = c.args.site.now in
    by_met site.year site.text.now c.args.bytes.now site.items.now c.split_at.result.0.now site.number c.item_at-old.result.now p c.requires.items of c.requires.entry c.item_at-old.ensures
    c.split_at.ensures.front c.saturating_sub-lines.result c.saturating_sub-lines.ensures c.in_ok-met.met c.in_ok-met.ensures.by

pub returns-clause-met : goal.returns-clause-met
returns-clause-met g c =
    let site = c.args.site.now in
    met_is site.year site.text.now c.args.bytes.now site.items.now c.in_ok-said.said (items_at c.split_at.result.0.now) c.saturating_sub-lines.result site.number c.item_at-old.result.now.piece.at c.in_ok-met.met
    c.requires.items c.in_ok-said.ensures.value c.requires.few c.in_ok-met.ensures.around c.in_ok-met.ensures.room
