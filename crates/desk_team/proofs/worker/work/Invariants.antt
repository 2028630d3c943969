use Rattle.desk_team.proofs.worker.work.Given as goal

-- the counters of this serving
abbrev pub ghosts-serve_counted : goal.ghosts-serve_counted
ghosts-serve_counted g a = record { name = a.blank.name; parts = a.blank.parts }
