use Rattle.web_messages.proofs.PathLemmas.{no_text}
use Rattle.web_messages.proofs.paths.Paths.find.Goals as goal

pub returns-in_default : goal.returns-in_default
returns-in_default c = no_text c.args.path.now c.in_default.ensures.cases.0
