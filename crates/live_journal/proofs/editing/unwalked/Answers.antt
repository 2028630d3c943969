use Rattle.live_journal.proofs.Trying.{anew_comes}
use Rattle.live_journal.proofs.editing.unwalked.Goals as goal

pub returns : goal.returns
returns g c = anew_comes c.args.editing.now c.loaded_anew.result c.args.steps.now c.loaded_anew.new.steps c.requires.editing c.requires.other c.loaded_anew.ensures
