use Rattle.std.proofs.Common.{Some, subst}
use Rattle.live_journal.specs.declared.edit.Edit.{Edit}
use Rattle.desk.specs.Desks.{Serves, state_of}
use Rattle.desk.specs.Reading.{CountsSteps}
use Rattle.desk.specs.States.{edit_answer, plain}
use Rattle.desk.proofs.ReadingLaws.{idle}
use Rattle.desk.proofs.Served.{out_of_memory}
use Rattle.desk.proofs.desk.Desk.edit.Goals as goal

pub returns-in-Ok-clause-served : goal.returns-in-Ok-clause-served
returns-in-Ok-clause-served g c = λ e is.
    let old = c.args.self.now in
    let F : Edit → Type 0 = λ x. Serves (edit_answer (state_of old) c.args.need (plain x)) (Some (plain x)) old c.judge.result c.judge.new.self in
    subst F (rw c.in-Ok.is at is) c.judge.ensures.served

pub returns-in-Err-clause-served : goal.returns-in-Err-clause-served
returns-in-Err-clause-served g c = λ e is. out_of_memory _ (Some (plain e)) c.args.self.now

pub returns-in-Ok-clause-steps : goal.returns-in-Ok-clause-steps
returns-in-Ok-clause-steps g c = λ e is.
    let F : Edit → Type 0 = λ x. CountsSteps c.args.self.now.live (Some (plain x)) c.judge.result c.args.steps.now c.judge.new.steps in
    subst F (rw c.in-Ok.is at is) c.judge.ensures.steps

pub returns-in-Err-clause-steps : goal.returns-in-Err-clause-steps
returns-in-Err-clause-steps g c = λ e is. idle _ _ _ _
