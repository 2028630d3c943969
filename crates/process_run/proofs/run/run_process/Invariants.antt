use Rattle.process_run.proofs.run.run_process.Given as goal

abbrev pub ghosts-counted : goal.ghosts-counted
ghosts-counted a args = record { name = args.blank.name; parts = args.blank.parts }
