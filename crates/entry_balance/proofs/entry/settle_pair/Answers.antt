use Rattle.std.proofs.Common.{◌≡◌, Bool, List, Some, None, cond, sym, ap, ◌∙◌}
use Rattle.book.specs.declared.fault.Cause.TheVariants as cause
use Rattle.book.specs.declared.transaction.Posting.{Posting}
use Rattle.book.specs.declared.transaction.Txn.{Txn}
use Rattle.entry_balance.specs.declared.entry.Settled.{Settled}
use Rattle.entry_balance.specs.Entry.{moved, solved, with_postings}
use Rattle.entry_balance.specs.Pair.{is_pair}
use Rattle.entry_balance.specs.Tally.{turnover_fits}
use Rattle.entry_balance.proofs.Causes.{if_ok_both}
use Rattle.entry_balance.proofs.Pairs.{pair_settled}
use Rattle.entry_balance.proofs.entry.settle_pair.Goals as goal

pub pair_fits-requires : goal.pair_fits-requires
pair_fits-requires c = ap is_pair c.as_slice.ensures ∙ c.requires

pub returns : goal.returns
returns c =
    let fits : c.pair_fits.result ≡ turnover_fits (moved (solved c.args.txn.postings)) =
    c.pair_fits.ensures ∙ ap (λ (ps : List Posting). turnover_fits (moved (solved ps))) c.as_slice.ensures in
    if_ok_both _ _ _ c.unsettled.result
    (λ s is again. pair_settled c.args.txn s c.requires
    (ap (λ (t : Settled). t.txn) is ∙ ap (with_postings c.args.txn) c.in_ok-postings.ensures)
    (ap (λ (t : Settled). t.cause) is ∙ c.range_unless-cause.ensures ∙ ap (λ (b : Bool). cond b None (Some cause.Range)) fits))
    c.unsettled.ensures c.unsettled.ensures
