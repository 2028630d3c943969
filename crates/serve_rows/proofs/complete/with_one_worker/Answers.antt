use Rattle.std.proofs.Common.{◌∙◌, refl, sym}
use Rattle.serve_rows.proofs.Houses.{one_is}
use Rattle.serve_rows.proofs.complete.with_one_worker.Goals as goal

pub returns-then-has_one_worker : goal.returns-then-has_one_worker
returns-then-has_one_worker c = (refl, one_is c.args.asked.crew.workers (sym c.has_one_worker.ensures ∙ c.if-has_one_worker.true))
