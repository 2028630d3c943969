use Rattle.std.proofs.Common.{map}
use Rattle.book.specs.Postings.{txns_of}
use Rattle.query.specs.OwnLetters.{own_in}
use Rattle.generated.specs.Added.{with_added}
use Rattle.generated.specs.Asking.{all_asked}
use Rattle.generated.proofs.Ending.{judged_same}
use Rattle.generated.proofs.auto.add_all.Goals as goal

pub returns-in-Ok : goal.returns-in-Ok
returns-in-Ok c =
    judged_same c.judged.result (txns_of c.in-Ok.placed.items) (map (with_added (own_in c.args.accounts.now.types.now) (all_asked c.args.askers.now)) c.args.txns.now)
    c.in-Ok.ensures c.judged.ensures
