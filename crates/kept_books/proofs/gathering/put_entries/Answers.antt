use Rattle.std.proofs.Common.{◌-◌, sym, ◌∙◌, arith}
use Rattle.kept_books.proofs.Gathered.{entries_all, entries_back, none_left}
use Rattle.kept_books.proofs.Renewing.{lent_of}
use Rattle.kept_books.proofs.gathering.put_entries.Goals as goal

pub loop-at-init : goal.loop-at-init
loop-at-init c = record { bound = omega arith; put = entries_all c.args.found.now.keys c.args.txns.now _ (omega arith) }

pub bounds-txns-at : goal.bounds-txns-at
bounds-txns-at c = let most = c.loop-at.invariant.bound in omega (arith, most)

pub loop-at-preserved : goal.loop-at-preserved
loop-at-preserved c =
    let most = c.loop-at.invariant.bound in
    record {
      bound = omega (arith, most);
      put = entries_back c.loop-at.found.keys c.put_txn.new.found.keys c.args.txns.now (c.loop-at.at - 1) c.loop-at.at c.index-txns-at.result (omega arith) (omega (arith, most)) c.index-txns-at.is c.in_ok-put_txn.ensures ∙ c.loop-at.invariant.put;
    }

pub returns : goal.returns
returns c = sym (none_left c.loop-at.found.keys (lent_of c.args.txns.now) c.loop-at.at (omega arith)) ∙ c.loop-at.invariant.put
