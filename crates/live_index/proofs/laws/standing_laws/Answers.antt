use Rattle.live_index.proofs.NetLaws.{fits-by, same-after}
use Rattle.live_index.proofs.StandingLaws.{node-standing, before-standing, before-after}
use Rattle.live_index.proofs.laws.standing_laws.Goals as goal

pub returns-clause-node : goal.returns-clause-node
returns-clause-node c rows account symbol below level at = node-standing rows account symbol below level at

pub returns-clause-before : goal.returns-clause-before
returns-clause-before c rows account symbol below end = before-standing rows account symbol below end

pub returns-clause-more : goal.returns-clause-more
returns-clause-more c rows more account symbol below end = before-after rows more account symbol below end

pub returns-clause-fits : goal.returns-clause-fits
returns-clause-fits c rows put same fits = fits-by rows put same fits

pub returns-clause-replaced : goal.returns-clause-replaced
returns-clause-replaced c front old back new put same = same-after front old back new put same
