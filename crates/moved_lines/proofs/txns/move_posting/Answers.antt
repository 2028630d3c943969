use Rattle.moved_lines.proofs.txns.move_posting.Goals as goal

pub moved-posting-requires : goal.moved-posting-requires
moved-posting-requires c = c.requires

pub returns : goal.returns
returns c = λ i. record (c.args.posting.now) { line = c.moved-posting.ensures i }
