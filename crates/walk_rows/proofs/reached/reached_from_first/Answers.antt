use Rattle.std.proofs.Common.{ℕ, suc, ◌==◌, Bool, List, [], ◌∷◌, refl}
use Rattle.book.specs.declared.transaction.Txn.{Txn}
use Rattle.reached_entries.specs.Reached.{AreSame}
use Rattle.walk_rows.proofs.reached.reached_from_first.Goals as goal

same_all : (set : ℕ → Bool) (n : ℕ) (txns : List Txn) → AreSame set n txns txns
same_all set n [] = tt
same_all set n (t ∷ ts) = (λ off. refl, same_all set (suc n) ts)

pub reached_from-requires-clause-others : goal.reached_from-requires-clause-others
reached_from-requires-clause-others c = same_all (λ n. n == 0) 0 c.args.txns.now
