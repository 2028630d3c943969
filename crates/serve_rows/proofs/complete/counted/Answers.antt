use Rattle.serve_rows.proofs.Houses.{sound_with}
use Rattle.serve_rows.proofs.complete.counted.Goals as goal

pub run_soundly-status-requires-clause-serve : goal.run_soundly-status-requires-clause-serve
run_soundly-status-requires-clause-serve g c κs within = c.in-Some.ensures.0

pub run_soundly-status-requires-clause-asked : goal.run_soundly-status-requires-clause-asked
run_soundly-status-requires-clause-asked g c κs within = c.in-Some.ensures.1

pub run_soundly-status-requires-clause-house : goal.run_soundly-status-requires-clause-house
run_soundly-status-requires-clause-house g c κs within =
    sound_with _ c.in-Some.asked.crew.workers c.in-Some.ensures.2 (c.in_ok-site.ensures.sound c.requires.none.0 c.requires.none.1)

pub run_soundly-status-requires-clause-output : goal.run_soundly-status-requires-clause-output
run_soundly-status-requires-clause-output g c κs within = c.in_ok-site.ensures.output

pub run_soundly-status-requires-clause-error : goal.run_soundly-status-requires-clause-error
run_soundly-status-requires-clause-error g c κs within = c.in_ok-site.ensures.error
