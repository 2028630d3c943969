use Rattle.std.proofs.Common.{◌∙◌, sym}
use Rattle.std.proofs.lemmas.Bool.{false≢true}
use Rattle.serve_line.proofs.program.run_program.Goals as goal

pub returns-then-asks_serve-clause-served : goal.returns-then-asks_serve-clause-served
returns-then-asks_serve-clause-served g c = λ e. c.run_serve.ensures

pub returns-then-asks_serve-clause-other : goal.returns-then-asks_serve-clause-other
returns-then-asks_serve-clause-other g c = λ e. absurd (false≢true (sym e ∙ (sym c.asks_serve.ensures ∙ c.if-asks_serve.true)))

pub returns-else-asks_serve-clause-served : goal.returns-else-asks_serve-clause-served
returns-else-asks_serve-clause-served g c = λ e. absurd (false≢true (sym c.if-asks_serve.false ∙ (c.asks_serve.ensures ∙ e)))

pub returns-else-asks_serve-clause-other : goal.returns-else-asks_serve-clause-other
returns-else-asks_serve-clause-other g c = λ e. c.run_other.ensures
