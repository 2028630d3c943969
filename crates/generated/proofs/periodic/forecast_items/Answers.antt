use Rattle.std.proofs.Common.{List, ◌++◌, ap, ◌∙◌}
use Rattle.book.specs.Postings.{txns_of}
use Rattle.book.specs.declared.item.Placed.{Placed}
use Rattle.book.specs.declared.transaction.Txn.{Txn}
use Rattle.generated.proofs.periodic.forecast_items.Goals as goal

pub returns : goal.returns
returns c =
    c.in_ok-place_all-2.ensures
    ∙ ap (λ (ts : List Txn). ts ++ c.in_ok-made.made.items)
    (c.in_ok-place_all.ensures
    ∙ ap (λ (ps : List Placed). txns_of ps ++ c.in_ok-copies.copies.items) c.new-placed.ensures.items
    ∙ c.in_ok-copies.ensures)
    ∙ ap (λ (ts : List Txn). c.args.txns.now ++ ts) c.in_ok-made.ensures
