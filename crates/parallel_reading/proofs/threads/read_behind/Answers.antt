use Rattle.parallel_reading.proofs.Alike.{behind_in}
use Rattle.parallel_reading.proofs.Runs.{gives_so}
use Rattle.parallel_reading.proofs.threads.read_behind.Goals as goal

pub returns : goal.returns
returns g c =
    gives_so c.read_by_four.result _ _
    (behind_in c.args.year c.in_ok-context.context c.args.text.now c.args.pieces.now c.args.items.items c.reserve_exact.new.self.items c.as_slice.result.now c.requires.alike c.in_ok-reserve_exact.ensures.items
    c.as_slice.ensures.value c.in_ok-context.ensures) c.read_by_four.ensures
