use Rattle.connection_rows.proofs.cells.sums_before_days.Given as goal

abbrev pub ghosts-opened : goal.ghosts-opened
ghosts-opened a = record { name = a.blank.name; parts = a.blank.parts }
