use Rattle.reached_entries.proofs.Blanks.{others-stay}
use Rattle.reached_entries.proofs.Stays.{new-book}
use Rattle.reached_entries.proofs.an_edit_reaches.Goals as goal

pub returns-clause-others : goal.returns-clause-others
returns-clause-others c reached old new before after = others-stay reached old new before after

pub returns-clause-solved : goal.returns-clause-solved
returns-clause-solved c reached old new before after = new-book reached old new before after
