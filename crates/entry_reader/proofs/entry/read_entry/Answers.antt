use Rattle.entry_reader.proofs.entry.read_entry.Goals as goal

pub returns : goal.returns
returns c = rw c.cut_line.ensures.cut c.read_lines.ensures
