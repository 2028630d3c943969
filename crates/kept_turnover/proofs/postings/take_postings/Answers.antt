use Rattle.std.proofs.Common.{◌≡◌, ◌<◌, ◌≤◌, length, take_all, sym, ap, subst, ◌∙◌, arith, List}
use Rattle.book.specs.declared.transaction.Posting.{Posting}
use Rattle.entry_balance.specs.Entry.{amount_cost_fits, moved}
use Rattle.entry_balance.proofs.Adding.{list_all-at}
use Rattle.kept_turnover.specs.Keeping.{Loses}
use Rattle.kept_turnover.proofs.Booking.{loses_posting}
use Rattle.kept_turnover.proofs.Holding.{loses_none}
use Rattle.kept_turnover.proofs.postings.take_postings.Goals as goal

pub loop-posting-init : goal.loop-posting-init
loop-posting-init c = loses_none c.args.symbols.now

pub take_posting-requires : goal.take_posting-requires
take_posting-requires c =
    list_all-at (λ (p : Posting). amount_cost_fits p.amount p.cost) c.args.postings.now c.loop-posting.posting-index c.posting-item.result (omega arith) c.posting-item.is c.requires

pub loop-posting-preserved : goal.loop-posting-preserved
loop-posting-preserved c =
    loses_posting c.args.symbols.now c.loop-posting.symbols c.take_posting.new.symbols c.args.postings.now c.loop-posting.posting-index c.posting-item.result (omega arith) c.posting-item.is c.loop-posting.invariant c.take_posting.ensures

pub returns : goal.returns
returns c =
    let ps = c.args.postings.now in
    let past : length ps ≤ c.loop-posting.posting-index = omega arith in
    subst (λ (qs : List Posting). Loses c.args.symbols.now c.loop-posting.symbols (moved qs)) (take_all c.loop-posting.posting-index ps past) c.loop-posting.invariant
