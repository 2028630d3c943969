use Rattle.std.proofs.Common.{ℕ, List, [], sym, subst}
use Rattle.book.specs.declared.transaction.Txn.{Txn}
use Rattle.placed_sums.specs.Accounts.{HasSymbols}
use Rattle.walked_edits.proofs.tests.last_told.Goals as goal

pub put_lines-requires : goal.put_lines-requires
put_lines-requires g c = (
  (c.in_ok-told.ensures.solves, c.in_ok-told.ensures.kept),
  subst (λ (book : List Txn). HasSymbols c.as_slice.result.now book) (sym c.in_ok-told.ensures.none)
      (subst (λ (symbols : List (List ℕ)). HasSymbols symbols []) (sym c.as_slice.ensures.value) c.in_ok-symbols.ensures),
)
