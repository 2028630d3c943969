use Rattle.text_ends.proofs.Walking.{is_so}
use Rattle.text_ends.proofs.kept.KeptEnd.behind.Goals as goal

pub returns-clause-so : goal.returns-clause-so
returns-clause-so g c = is_so c.args.self.now c.args.bytes.now c.put_behind.result c.put_behind.ensures.value
