use Rattle.walked_edits.proofs.tests.an_edit_moves_its_day.Given as goal

abbrev pub ghosts-last_told : goal.ghosts-last_told
ghosts-last_told g a = record { name = a.blank.name; parts = a.blank.parts }
