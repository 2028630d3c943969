use Rattle.command_line.proofs.previews.preview_noted.Goals as goal

pub returns-clause-previews : goal.returns-clause-previews
returns-clause-previews g c = record { err = c.note.new.err; notes = c.note.ensures; goes = c.preview_store.ensures.previews }
