use Rattle.std.proofs.Common.{List, length, ap, ◌∙◌}
use Rattle.book.specs.Postings.{txns_of}
use Rattle.book.specs.declared.item.Placed.{Placed}
use Rattle.walked_texts.proofs.walking.number_at.Goals as goal

pub returns : goal.returns
returns c = c.count_txns.ensures.count ∙ ap (λ (ps : List Placed). length (txns_of ps)) c.split_at.ensures.front
