use Rattle.std.proofs.Common.{◌++◌, List, IfOk, sym, subst, ◌∙◌, take-append-drop}
use Rattle.book.specs.declared.transaction.Txn.{Txn}
use Rattle.index_cells.specs.Books.{KeepsBook}
use Rattle.index_cells.proofs.tests.kept_of.Goals as goal

pub kept_behind-requires : goal.kept_behind-requires
kept_behind-requires c = sym ((λ i. c.split_at.ensures.front i ++ c.split_at.ensures.back i) ∙ take-append-drop _ c.as_slice-all.result.now)

pub returns : goal.returns
returns c = subst (λ (txns : List Txn). IfOk c.kept_behind.result (KeepsBook txns)) c.as_slice-all.ensures c.kept_behind.ensures
