use Rattle.connection_rows.proofs.served.ended_with.Given as goal

abbrev pub ghosts-alone : goal.ghosts-alone
ghosts-alone a = record { name = a.blank.name; parts = a.blank.parts }
