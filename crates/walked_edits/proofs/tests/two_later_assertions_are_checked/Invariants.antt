use Rattle.walked_edits.proofs.tests.two_later_assertions_are_checked.Given as goal

abbrev pub ghosts-last_forms : goal.ghosts-last_forms
ghosts-last_forms g a = record { name = a.blank.name; parts = a.blank.parts }
