use Rattle.std.proofs.Common.{◌≡◌, ◌<◌, ℕ, List, length, get_or, ap, subst, arith}
use Rattle.book.specs.declared.transaction.Posting.{Posting}
use Rattle.placed_sums.proofs.Adding.{none_in}
use Rattle.live_cells.proofs.Parts.{can_add_posting, posting_added, postings_done}
use Rattle.live_cells.proofs.over_book.txn_sum.Goals as goal

pub loop-posting-init : goal.loop-posting-init
loop-posting-init c = none_in c.args.txn.now.postings c.args.symbol.now c.zero-sum.result c.zero-sum.ensures

pub sum_of-sum-requires : goal.sum_of-sum-requires
sum_of-sum-requires c =
    let i : ℕ = c.loop-posting.posting-index in
    let p : Posting = c.posting-item.result in
    let same = c.as_slice-posting-items.ensures in
    let inside : i < length c.args.txn.now.postings = omega (arith, ap length same) in
    can_add_posting c.args.account.now c.args.symbol.now c.args.below c.args.end.0 c.args.txn.now i p c.loop-posting.sum c.posting_sum-part.result inside
    (subst (λ (ps : List Posting). p ≡ get_or ps i p) same c.posting-item.is) c.requires c.loop-posting.invariant c.posting_sum-part.ensures.value c.posting_sum-part.ensures.places

pub loop-posting-preserved : goal.loop-posting-preserved
loop-posting-preserved c =
    let i : ℕ = c.loop-posting.posting-index in
    let p : Posting = c.posting-item.result in
    let same = c.as_slice-posting-items.ensures in
    let inside : i < length c.args.txn.now.postings = omega (arith, ap length same) in
    posting_added c.args.account.now c.args.symbol.now c.args.below c.args.end.0 c.args.txn.now i p c.loop-posting.sum c.posting_sum-part.result c.sum_of-sum.result inside
    (subst (λ (ps : List Posting). p ≡ get_or ps i p) same c.posting-item.is) c.loop-posting.invariant c.posting_sum-part.ensures.value c.posting_sum-part.ensures.places c.sum_of-sum.ensures.value c.sum_of-sum.ensures.places

pub returns : goal.returns
returns c =
    postings_done c.args.account.now c.args.symbol.now c.args.below c.args.end.0 c.args.txn.now c.loop-posting.posting-index c.loop-posting.sum (omega (arith, ap length c.as_slice-posting-items.ensures)) c.loop-posting.invariant
