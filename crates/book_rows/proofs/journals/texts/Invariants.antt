use Rattle.book_rows.proofs.journals.texts.Given as goal

abbrev pub ghosts-each_text : goal.ghosts-each_text
ghosts-each_text g a = record { name = a.blank.name; parts = a.blank.parts }
