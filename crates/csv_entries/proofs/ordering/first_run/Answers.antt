use Rattle.std.proofs.Common.{get_or, sym, ap}
use Rattle.book.specs.declared.transaction.Txn.{Txn}
use Rattle.csv_entries.proofs.Runs.{run_cut}
use Rattle.csv_entries.proofs.ordering.first_run.Goals as goal

pub returns-clause-cut : goal.returns-clause-cut
returns-clause-cut c =
    run_cut c.args.txns.now (get_or c.args.txns.now 0 c.index-txns-0.result).day.0 c.day_length.result c.index-txns-0.result c.requires c.index-txns-0.is
    (sym (ap (λ (t : Txn). t.day.0) c.index-txns-0.is)) c.day_length.ensures.count
