use Rattle.std.proofs.Common.{◌++◌, ◌∷◌, [], ap, ◌∙◌}
use Rattle.book.specs.declared.transaction.Txn.{Txn}
use Rattle.walked_texts.proofs.vacating.push_vacant.Goals as goal

pub returns : goal.returns
returns c = c.in_ok-push.ensures.items ∙ ap (λ (t : Txn). c.args.vacants.now.items ++ t ∷ []) c.vacant.ensures
