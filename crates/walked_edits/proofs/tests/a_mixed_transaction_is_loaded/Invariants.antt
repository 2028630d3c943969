use Rattle.walked_edits.proofs.tests.a_mixed_transaction_is_loaded.Given as goal

abbrev pub ghosts-last_forms : goal.ghosts-last_forms
ghosts-last_forms g a = record { name = a.blank.name; parts = a.blank.parts }
