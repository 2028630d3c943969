use Rattle.entry_reader.proofs.Texts.{before_byte, after_byte}
use Rattle.entry_reader.proofs.scan.around.Goals as goal

pub returns-clause-utf8 : goal.returns-clause-utf8
returns-clause-utf8 c = λ lt e. (
  rw (c.split_at.ensures.front, c.place_of-at.ensures.place) (before_byte c.args.text.now c.args.byte lt e),
  rw (c.behind.ensures, c.place_of-at.ensures.place) (after_byte c.args.text.now c.args.byte lt e),
)
