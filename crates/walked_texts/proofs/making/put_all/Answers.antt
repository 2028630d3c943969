use Rattle.walked_texts.proofs.making.put_all.Goals as goal

pub returns : goal.returns
returns c = c.swap_in.ensures
