use Rattle.serve_line.specs.Words.{serve_read}
use Rattle.serve_rows.proofs.Houses.{kept_is}
use Rattle.serve_rows.proofs.complete.read_one.Goals as goal

pub returns-in-Ok : goal.returns-in-Ok
returns-in-Ok c =
    kept_is (serve_read c.args.page.now c.args.words.now) c.in-Ok.asked c.with_one_worker.result c.in-Ok.ensures c.with_one_worker.ensures
