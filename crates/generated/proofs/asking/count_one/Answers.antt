use Rattle.std.proofs.Common.{length, ap, ◌∙◌, arith}
use Rattle.query.specs.OwnLetters.{own_in}
use Rattle.generated.specs.Asking.{asked_of}
use Rattle.generated.specs.Rules.{Asked}
use Rattle.generated.proofs.Steps.{count_no, count_yes}
use Rattle.generated.proofs.asking.count_one.Goals as goal

pub returns-then-means-clause-count : goal.returns-then-means-clause-count
returns-then-means-clause-count c =
    count_yes (own_in c.args.types.now) c.args.txn.now c.args.posting.now (asked_of c.args.asker.now) c.means.result c.len-count.result
    c.if-means.true c.means.ensures.found (c.len-count.ensures ∙ ap (λ (rule : Asked). length rule.postings) c.means.ensures.asks.same) (omega arith)

pub returns-else-means-clause-count : goal.returns-else-means-clause-count
returns-else-means-clause-count c =
    count_no (own_in c.args.types.now) c.args.txn.now c.args.posting.now (asked_of c.args.asker.now) c.means.result c.if-means.false c.means.ensures.found
