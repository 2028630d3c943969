use Rattle.std.proofs.Common.{◌+◌, ◌-◌, ◌^◌, min, None, Some, ap, subst}
use Rattle.live_journal.specs.declared.edit.Edit.{Edit}
use Rattle.live_journal.specs.Journals.{Journal}
use Rattle.live_journal.specs.Refusals.{planned}
use Rattle.desk.specs.declared.request.Allow.TheVariants as allow
use Rattle.desk.specs.Desks.{Serves, state_of}
use Rattle.desk.specs.DryRuns.{IsToldOf}
use Rattle.desk.specs.Previews.{revision_line}
use Rattle.desk.specs.Reading.{CountsSteps, edit_reply}
use Rattle.desk.specs.States.{check_answer, edit_answer, plain}
use Rattle.desk.proofs.DryEdits.{next_is}
use Rattle.desk.proofs.DryLaws.{dry_serves, told_dry}
use Rattle.desk.proofs.ReadingLaws.{idle, told_steps}
use Rattle.desk.proofs.Served.{out_of_memory}
use Rattle.desk.proofs.desk.Desk.check.Goals as goal

pub returns-in-Ok-clause-served : goal.returns-in-Ok-clause-served
returns-in-Ok-clause-served g c = λ e is.
    let old = c.args.self.now in
    let s = state_of old in
    let d = plain c.in-Ok.edit in
    let r = c.checked.result in
    let made = c.dry_run-made.result in
    let told = subst (λ (j : Journal). IsToldOf j.revision (λ plan. revision_line (min (j.revision + 1) (2 ^ 64 - 1))) made r) c.dry_run-made.ensures.stays.live c.checked.ensures in
    let replied = told_dry s (edit_answer s allow.Add d) (planned old.live d.edit) (λ plan. revision_line (min (s.revision + 1) (2 ^ 64 - 1))) made (revision_line (s.revision + 1)) r c.dry_run-made.ensures.runs told
    (λ done. ap revision_line (next_is s allow.Add d done)) in
    let F : Edit → Type 0 = λ x. Serves (check_answer s (plain x)) None old r c.dry_run-made.new.self in
    subst F (rw c.in-Ok.is at is) (dry_serves old c.dry_run-made.new.self (revision_line (s.revision + 1)) (edit_answer s allow.Add d) r replied c.dry_run-made.ensures.stays)

pub returns-in-Ok-clause-counts : goal.returns-in-Ok-clause-counts
returns-in-Ok-clause-counts g c = c.dry_run-made.ensures.stays.counts

pub returns-in-Ok-clause-steps : goal.returns-in-Ok-clause-steps
returns-in-Ok-clause-steps g c = λ e is.
    let live = c.dry_run-made.new.self.live in
    let F : Edit → Type 0 = λ x. CountsSteps c.args.self.now.live (Some (plain x)) (edit_reply c.checked.result) c.args.steps.now c.dry_run-made.new.steps in
    subst F (rw c.in-Ok.is at is) (told_steps c.args.self.now.live (plain c.in-Ok.edit) live.revision (λ plan. revision_line (min (live.revision + 1) (2 ^ 64 - 1))) c.dry_run-made.result c.checked.result _ _
    c.dry_run-made.ensures.steps c.checked.ensures)

pub returns-in-Err-clause-served : goal.returns-in-Err-clause-served
returns-in-Err-clause-served g c = λ e is. out_of_memory _ None c.args.self.now

pub returns-in-Err-clause-steps : goal.returns-in-Err-clause-steps
returns-in-Err-clause-steps g c = λ e is. idle _ _ _ _
