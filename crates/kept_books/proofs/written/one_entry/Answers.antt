use Rattle.std.proofs.Common.{◌++◌, ◌∷◌, [], ◌∙◌}
use Rattle.kept_books.proofs.Renewing.{lent_of}
use Rattle.kept_books.proofs.written.one_entry.Goals as goal

pub returns : goal.returns
returns c = c.in_ok-push_lent.ensures ∙ (λ j. lent_of (c.new-txns.ensures.items j) ++ c.args.txn.now ∷ [])
