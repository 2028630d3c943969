use Rattle.std.proofs.Common.{◌≡◌, List, subst, ◌∙◌}
use Rattle.hl_num.specs.Decimal.{units_of}
use Rattle.book.specs.SumsBefore.{start_of, sum_before}
use Rattle.book.specs.declared.transaction.Txn.{Txn}
use Rattle.live_cells.proofs.Indexed.{index_tells}
use Rattle.live_cells.proofs.Places.{book_tells}
use Rattle.live_cells.proofs.book_sums.BookSumsDaySums.cell.Goals as goal

pub upto-requires : goal.upto-requires
upto-requires g c = c.in-Some.ensures.near

pub sum_over-requires : goal.sum_over-requires
sum_over-requires g c = c.self.invariant.fits

pub returns-in-Some-clause-sum : goal.returns-in-Some-clause-sum
returns-in-Some-clause-sum g c =
    index_tells c.in-Some.index.now c.args.self.now c.args.account.now c.args.symbol.now c.args.below c.args.end (units_of c.upto.result) c.in-Some.ensures.told c.upto.ensures.sum.value

pub returns-in-None-clause-sum : goal.returns-in-None-clause-sum
returns-in-None-clause-sum g c =
    subst (λ (book : List Txn). units_of c.sum_over.result ≡ sum_before book c.args.account.now c.args.symbol.now c.args.below (start_of c.args.end)) c.self.view_is
    (c.sum_over.ensures.value ∙ book_tells c.self.inside.txns.now c.args.account.now c.args.symbol.now c.args.below c.args.end)
