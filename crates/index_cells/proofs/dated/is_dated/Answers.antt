use Rattle.std.proofs.Common.{List, get_or, length, sym, ap, ◌∙◌, arith}
use Rattle.book.specs.declared.transaction.Posting.{Posting}
use Rattle.index_cells.specs.Posted.{is_early}
use Rattle.index_cells.proofs.Dating.{all_so_far, all_whole, one_fails}
use Rattle.index_cells.proofs.dated.is_dated.Goals as goal

pub loop-posting-preserved : goal.loop-posting-preserved
loop-posting-preserved c =
    let items = c.as_slice-posting-items.ensures in
    all_so_far (is_early c.args.txn.now) c.args.txn.now.postings c.loop-posting.posting-index c.posting-item.result
    (omega (arith, ap (λ (l : List Posting). length l) items)) (c.posting-item.is ∙ ap (λ (l : List Posting). get_or l c.loop-posting.posting-index c.posting-item.result) items)
    c.loop-posting.invariant (sym c.is_early-early.ensures ∙ c.if-not-early.false)

pub returns-then-not-early : goal.returns-then-not-early
returns-then-not-early c =
    let items = c.as_slice-posting-items.ensures in
    sym (one_fails (is_early c.args.txn.now) c.args.txn.now.postings c.loop-posting.posting-index c.posting-item.result
    (omega (arith, ap (λ (l : List Posting). length l) items)) (c.posting-item.is ∙ ap (λ (l : List Posting). get_or l c.loop-posting.posting-index c.posting-item.result) items)
    (sym c.is_early-early.ensures ∙ c.if-not-early.true))

pub returns : goal.returns
returns c =
    let items = c.as_slice-posting-items.ensures in
    sym (all_whole (is_early c.args.txn.now) c.args.txn.now.postings c.loop-posting.posting-index (omega (arith, ap (λ (l : List Posting). length l) items)) c.loop-posting.invariant)
