use Rattle.std.proofs.Common.{◌≡◌, ◌+◌, ◌≤◌, List, ◌++◌, length, sym, ap, subst, ◌∙◌, arith}
use Rattle.std.specs.List.{AllByRecursion}
use Rattle.book.specs.declared.transaction.Txn.{Txn}
use Rattle.walked_edits.specs.Forms.{IsInside, put_forms}
use Rattle.loaded_texts.proofs.made.put_txns.Goals as goal

pub put_items-requires : goal.put_items-requires
put_items-requires c = omega (arith, c.requires.room, ap length c.from_vec.ensures)

pub put_all-requires : goal.put_all-requires
put_all-requires c =
    let book = c.into_vec-book.ensures ∙ c.replace-list.ensures.value ∙ c.put_items.ensures ∙ ap (λ (ts : List Txn). c.args.txns.now ++ ts) c.from_vec.ensures in
    subst (λ (b : List Txn). AllByRecursion (IsInside b) c.args.forms.items) (sym book) c.requires.inside

pub returns : goal.returns
returns c =
    let book = c.into_vec-book.ensures ∙ c.replace-list.ensures.value ∙ c.put_items.ensures ∙ ap (λ (ts : List Txn). c.args.txns.now ++ ts) c.from_vec.ensures in
    c.from_vec-2.ensures ∙ c.put_all.ensures ∙ ap (λ (b : List Txn). put_forms b c.args.forms.items) book
