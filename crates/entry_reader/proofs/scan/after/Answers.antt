use Rattle.entry_reader.proofs.Texts.{after_byte}
use Rattle.entry_reader.proofs.scan.after.Goals as goal

pub returns-clause-utf8 : goal.returns-clause-utf8
returns-clause-utf8 c = λ lt e. rw (c.behind.ensures, c.place_of.ensures.place) (after_byte c.args.text.now c.args.byte lt e)
