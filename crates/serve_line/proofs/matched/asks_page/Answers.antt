use Rattle.std.proofs.Common.{◌∙◌, ap}
use Rattle.serve_line.specs.Words.{asks_page}
use Rattle.serve_line.proofs.matched.asks_page.Goals as goal

pub returns-in-Some : goal.returns-in-Some
returns-in-Some c = c.is_true.ensures ∙ ap asks_page c.in-Some.ensures

pub returns-in-None : goal.returns-in-None
returns-in-None c = ap asks_page c.in-None.ensures
