use Rattle.std.proofs.lemmas.Result.{err_from_is_err_and}
use Rattle.changed_texts.proofs.Sites.{bytes_fit, lies_within, lines_fit, made_is, read_err, read_ok, replaces_is, txn_is}
use Rattle.changed_texts.proofs.change.read_change.Goals as goal

pub read_behind-requires : goal.read_behind-requires
read_behind-requires g c =
    let site = c.args.site.now in
    let old = c.item_at-old.result.now in
    lines_fit site.text.now c.args.bytes.now old.piece
    (lies_within site.year site.text.now site.items.now site.number old c.requires.items c.requires.number c.item_at-old.ensures) c.requires.few

pub change_of-requires : goal.change_of-requires
change_of-requires g c =
    let site = c.args.site.now in
    let old = c.item_at-old.result.now in
    bytes_fit site.text.now old.piece (lies_within site.year site.text.now site.items.now site.number old c.requires.items c.requires.number c.item_at-old.ensures)

pub returns-in_err-item-clause-value : goal.returns-in_err-item-clause-value
returns-in_err-item-clause-value g c =
    let q = err_from_is_err_and c.from_residual.result c.from_residual.ensures.1 in
    let site = c.args.site.now in
    rw (q.1, q.2) (λ p of.
    read_err site.year site.text.now c.args.bytes.now site.items.now c.split_at.result.0.now site.number c.item_at-old.result.now p
    c.requires.items of c.requires.entry c.item_at-old.ensures c.split_at.ensures.front c.in_err-item.field-0.0 c.in_err-item.ensures.value)

pub returns-clause-value : goal.returns-clause-value
returns-clause-value g c = λ p of.
    let site = c.args.site.now in
    read_ok site.year site.text.now c.args.bytes.now site.items.now c.split_at.result.0.now site.number c.item_at-old.result.now p
    c.requires.items of c.requires.entry c.item_at-old.ensures c.split_at.ensures.front c.in_ok-item.item c.change_of.result c.in_ok-item.ensures.value c.change_of.ensures

pub returns-clause-made : goal.returns-clause-made
returns-clause-made g c = λ p of.
    let site = c.args.site.now in
    made_is site.year site.text.now c.args.bytes.now site.items.now c.split_at.result.0.now site.number c.item_at-old.result.now p
    c.requires.items of c.requires.entry c.item_at-old.ensures c.split_at.ensures.front c.in_ok-item.item c.change_of.result c.change_of.ensures

pub returns-clause-txn : goal.returns-clause-txn
returns-clause-txn g c =
    let site = c.args.site.now in
    txn_is site.year site.text.now c.args.bytes.now site.items.now c.split_at.result.0.now site.number c.item_at-old.result.now.piece c.in_ok-item.item c.change_of.result
    c.requires.entry c.split_at.ensures.front c.in_ok-item.ensures.value c.change_of.ensures

pub returns-clause-replaces : goal.returns-clause-replaces
returns-clause-replaces g c = λ p of.
    let site = c.args.site.now in
    replaces_is site.year site.text.now c.args.bytes.now site.items.now c.split_at.result.0.now site.number c.item_at-old.result.now p
    c.requires.items of c.requires.entry c.item_at-old.ensures c.split_at.ensures.front c.in_ok-item.item c.change_of.result c.in_ok-item.ensures.value c.change_of.ensures
