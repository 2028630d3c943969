use Rattle.loaded_texts.proofs.Places.{parts_as}
use Rattle.loaded_texts.proofs.changing.changed_with.Goals as goal

pub with_gaps-requires-clause-number : goal.with_gaps-requires-clause-number
with_gaps-requires-clause-number c = c.requires.number

pub with_gaps-requires-clause-met : goal.with_gaps-requires-clause-met
with_gaps-requires-clause-met c = c.requires.met

pub with_gaps-requires-clause-parts : goal.with_gaps-requires-clause-parts
with_gaps-requires-clause-parts c = c.requires.parts

pub changed_of-requires : goal.changed_of-requires
changed_of-requires c = c.requires.number

pub returns-clause-parts : goal.returns-clause-parts
returns-clause-parts c = parts_as c.args.loaded.now.items c.args.loaded.now.book.txns c.args.number c.args.met c.in_ok-parts.parts c.changed_of.result c.changed_of.ensures.parts c.in_ok-parts.ensures
