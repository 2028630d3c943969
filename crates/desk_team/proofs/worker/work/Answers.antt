use Rattle.desk_team.proofs.worker.work.Goals as goal

pub returns : goal.returns
returns g c = (c.serve_counted-end.ensures.served, c.serve_counted-end.ensures.sound)
