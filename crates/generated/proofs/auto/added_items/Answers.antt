use Rattle.std.proofs.Common.{List, ◌++◌, ap, ◌∙◌}
use Rattle.book.specs.Postings.{txns_of}
use Rattle.book.specs.declared.item.Placed.{Placed}
use Rattle.generated.proofs.auto.added_items.Goals as goal

pub returns : goal.returns
returns c =
    c.in_ok-place_all.ensures
    ∙ ap (λ (ps : List Placed). txns_of ps ++ c.in_ok-txns.txns.items) c.new-placed.ensures.items
    ∙ c.in_ok-txns.ensures
