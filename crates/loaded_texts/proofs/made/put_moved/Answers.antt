use Rattle.std.proofs.Common.{◌≡◌, ◌≤◌, List, length, drop, sym, ap, subst, ◌∙◌}
use Rattle.std.specs.List.{AllByRecursion}
use Rattle.std.proofs.lemmas.List.{with_items_is}
use Rattle.book.specs.declared.transaction.Txn.{Txn}
use Rattle.moved_lines.specs.Moving.{CanMoveTxn, moved_from}
use Rattle.walked_edits.specs.Forms.{IsInside, put_forms}
use Rattle.loaded_texts.proofs.made.put_moved.Goals as goal

pub put_all-requires : goal.put_all-requires
put_all-requires c =
    subst (λ (b : List Txn). AllByRecursion (IsInside b) c.args.forms.items) (sym (c.into_vec-book.ensures ∙ c.replace-list.ensures.value)) c.requires.inside

pub move_lines-requires-clause-from : goal.move_lines-requires-clause-from
move_lines-requires-clause-from c =
    let forms = c.deref_mut.ensures.value ∙ c.put_all.ensures ∙ ap (λ (b : List Txn). put_forms b c.args.forms.items) (c.into_vec-book.ensures ∙ c.replace-list.ensures.value) in
    subst (λ (ts : List Txn). c.args.first ≤ length ts) (sym forms) c.requires.first

pub move_lines-requires-clause-lines : goal.move_lines-requires-clause-lines
move_lines-requires-clause-lines c =
    let forms = c.deref_mut.ensures.value ∙ c.put_all.ensures ∙ ap (λ (b : List Txn). put_forms b c.args.forms.items) (c.into_vec-book.ensures ∙ c.replace-list.ensures.value) in
    subst (λ (ts : List Txn). AllByRecursion (CanMoveTxn c.args.by) (drop c.args.first ts)) (sym forms) c.requires.lines

pub returns : goal.returns
returns c =
    let forms = c.deref_mut.ensures.value ∙ c.put_all.ensures ∙ ap (λ (b : List Txn). put_forms b c.args.forms.items) (c.into_vec-book.ensures ∙ c.replace-list.ensures.value) in
    c.from_vec.ensures ∙ with_items_is c.put_all.new.book c.move_lines.new.txns (c.move_lines.auto.txns ∙ c.deref_mut.ensures.len)
    ∙ c.move_lines.ensures ∙ ap (moved_from c.args.first c.args.by) forms
