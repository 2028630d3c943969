use Rattle.edit_rows.proofs.random.edits_of.Given as goal

abbrev pub ghosts-each_edit : goal.ghosts-each_edit
ghosts-each_edit a = record { name = a.blank.name; parts = a.blank.parts }
