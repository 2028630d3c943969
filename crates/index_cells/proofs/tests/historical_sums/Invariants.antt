use Rattle.index_cells.proofs.tests.historical_sums.Given as goal

abbrev pub ghosts-sums_of : goal.ghosts-sums_of
ghosts-sums_of g a = record { name = a.blank.name; parts = a.blank.parts }
