use Rattle.std.proofs.Common.{refl, sym, ◌∙◌}
use Rattle.query.specs.OwnLetters.{own_in}
use Rattle.generated.specs.Asking.{asked_of}
use Rattle.generated.proofs.Alone.{mean_alike}
use Rattle.generated.proofs.asking.verdict_of.Goals as goal

pub returns-then-asker-clause-verdict : goal.returns-then-asker-clause-verdict
returns-then-asker-clause-verdict c = λ own txn posting same.
    mean_alike (asked_of c.args.asker.now).terms own (own_in c.args.types.now) posting c.args.posting.now txn c.args.txn.now
    (c.requires.alone c.if-asker.true) same
    ∙ sym c.asks.ensures.found

pub returns-else-asker-clause-asks : goal.returns-else-asker-clause-asks
returns-else-asker-clause-asks c = record { same = refl; answers = c.requires }
