use Rattle.std.proofs.Common.{subst}
use Rattle.std.proofs.lemmas.Result.{err_from_is_err_and}
use Rattle.live_journal.proofs.adding.add.Goals as goal

pub put_or_walk-requires-clause-editing : goal.put_or_walk-requires-clause-editing
put_or_walk-requires-clause-editing g c = c.requires.editing

pub put_or_walk-requires-clause-loaded : goal.put_or_walk-requires-clause-loaded
put_or_walk-requires-clause-loaded g c = c.requires.loaded

pub put_or_walk-requires-clause-coming : goal.put_or_walk-requires-clause-coming
put_or_walk-requires-clause-coming g c = c.in_ok-added.ensures.coming

pub returns-in_err-added-clause-comes : goal.returns-in_err-added-clause-comes
returns-in_err-added-clause-comes g c =
    let p = err_from_is_err_and c.from_residual.result c.from_residual.ensures.1 in
    rw (p.1, p.2)
    (record {
      made = tt;
      loads = tt;
      few = tt;
      fault = c.in_err-added.ensures.fault;
      counts = tt;
      refused = c.in_err-added.ensures.refused;
    })

pub returns-clause-comes : goal.returns-clause-comes
returns-clause-comes g c = c.put_or_walk.ensures.comes c.args.steps.now c.in_ok-added.ensures.counts
