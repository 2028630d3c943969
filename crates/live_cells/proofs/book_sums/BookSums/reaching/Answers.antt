use Rattle.std.proofs.Common.{List, subst, arith}
use Rattle.book.specs.declared.transaction.Txn.{Txn}
use Rattle.live_cells.specs.Kept.{Reaches}
use Rattle.live_cells.proofs.book_sums.BookSums.reaching.Goals as goal

pub returns : goal.returns
returns c =
    let s = c.self.inside in
    subst (λ (book : List Txn). Reaches s.index.now book c.args.end.0) c.self.view_is (record { told = c.self.invariant.told; near = omega arith })
