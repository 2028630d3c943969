use Rattle.directive_reader.proofs.directive.read_head_item.Goals as goal

pub returns : goal.returns
returns c = rw c.cut_line.ensures.cut c.read_with.ensures
