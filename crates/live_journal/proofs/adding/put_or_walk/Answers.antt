use Rattle.std.proofs.Common.{Option, Some, None, subst}
use Rattle.additions.specs.declared.book_end.Plain.{Plain}
use Rattle.live_journal.specs.Trying.{IsComing}
use Rattle.live_journal.proofs.adding.put_or_walk.Goals as goal

pub put_plain-requires-clause-editing : goal.put_plain-requires-clause-editing
put_plain-requires-clause-editing g c = c.requires.editing

pub put_plain-requires-clause-loaded : goal.put_plain-requires-clause-loaded
put_plain-requires-clause-loaded g c = c.requires.loaded

pub put_plain-requires-clause-coming : goal.put_plain-requires-clause-coming
put_plain-requires-clause-coming g c = subst (λ (o : Option Plain). IsComing c.args.editing.now c.args.loaded.now c.args.added.grown o) c.in-Some.is c.requires.coming

pub walk-requires-clause-editing : goal.walk-requires-clause-editing
walk-requires-clause-editing g c = c.requires.editing

pub walk-requires-clause-loaded : goal.walk-requires-clause-loaded
walk-requires-clause-loaded g c = c.requires.loaded

pub walk-requires-clause-coming : goal.walk-requires-clause-coming
walk-requires-clause-coming g c = subst (λ (o : Option Plain). IsComing c.args.editing.now c.args.loaded.now c.args.added.grown o) c.in-None.is c.requires.coming

pub returns-in-Some-clause-comes : goal.returns-in-Some-clause-comes
returns-in-Some-clause-comes g c = c.put_plain.ensures c.args.steps.now

pub returns-in-None-clause-comes : goal.returns-in-None-clause-comes
returns-in-None-clause-comes g c = c.walk.ensures.comes

pub returns-in-None-clause-stays : goal.returns-in-None-clause-stays
returns-in-None-clause-stays g c = c.walk.ensures.stays
