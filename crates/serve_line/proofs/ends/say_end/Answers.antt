use Rattle.std.proofs.Common.{◌∙◌, refl, sym, ap}
use Rattle.std.proofs.lemmas.Bool.{false≢true}
use Rattle.serve_line.specs.Runs.{end_status}
use Rattle.serve_line.proofs.ends.say_end.Goals as goal

pub returns-then-failed-clause-well : goal.returns-then-failed-clause-well
returns-then-failed-clause-well g c = λ e. absurd (false≢true (sym e ∙ c.if-failed.true))

pub returns-then-failed-clause-fault : goal.returns-then-failed-clause-fault
returns-then-failed-clause-fault g c = λ e. c.say.ensures.told

pub returns-then-failed-clause-sound : goal.returns-then-failed-clause-sound
returns-then-failed-clause-sound g c = λ room. c.say.ensures.sound (room c.if-failed.true) ∙ sym (ap end_status c.if-failed.true)

pub returns-else-failed-clause-well : goal.returns-else-failed-clause-well
returns-else-failed-clause-well g c = λ e. (refl, refl)

pub returns-else-failed-clause-fault : goal.returns-else-failed-clause-fault
returns-else-failed-clause-fault g c = λ e. absurd (false≢true (sym c.if-failed.false ∙ e))

pub returns-else-failed-clause-sound : goal.returns-else-failed-clause-sound
returns-else-failed-clause-sound g c = λ room. sym (ap end_status c.if-failed.false)
