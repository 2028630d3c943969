use Rattle.book.specs.Postings.{txns_of}
use Rattle.rule_entries.specs.Making.{made_by_day}
use Rattle.generated.proofs.Ending.{judged_same}
use Rattle.generated.proofs.periodic.judged_alone.Goals as goal

pub returns-in-Ok : goal.returns-in-Ok
returns-in-Ok c = judged_same c.judged.result (txns_of c.in-Ok.placed.items) (made_by_day c.args.span c.args.items.now) c.in-Ok.ensures c.judged.ensures
