use Rattle.store_command_rows.proofs.calls.a_call_fails_or_is_stopped.Given as goal

abbrev pub ghosts-edits_fail : goal.ghosts-edits_fail
ghosts-edits_fail a = record { name = a.blank.name; parts = a.blank.parts }
