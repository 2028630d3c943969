use Rattle.live_index.proofs.tests.sums_at_the_ends_of_levels.Given as goal

abbrev pub ghosts-in_and_out : goal.ghosts-in_and_out
ghosts-in_and_out g a = record { name = a.blank.name; parts = a.blank.parts }
