use Rattle.query_terms.proofs.Texts.{before_byte}
use Rattle.query_terms.proofs.cutting.before.Goals as goal

pub returns-clause-utf8 : goal.returns-clause-utf8
returns-clause-utf8 c = λ lt e. rw (c.split_at.ensures.front, c.place_of.ensures.place) (before_byte c.args.text.now c.args.byte lt e)
