use Rattle.std.proofs.Common.{Some, refl, ap, sym, subst, ◌∙◌}
use Rattle.live_journal.specs.Journals.{Journal}
use Rattle.live_journal.specs.Refusals.{refusal_of}
use Rattle.desk.specs.Desks.{Serves, state_of}
use Rattle.desk.specs.States.{Answer, as_reply, edit_answer}
use Rattle.desk.specs.declared.reply.Reply.TheVariants as reply
use Rattle.desk.proofs.ReadingLaws.{idle, planned_steps, refused_steps}
use Rattle.desk.proofs.Served.{accepted_by, forbids, journal_is, permits, plan_is, refused_by, replied, forbidden_answer}
use Rattle.desk.proofs.Still.{recounted}
use Rattle.desk.proofs.desk.Desk.judge.Goals as goal

pub returns-then-not-covers-clause-served : goal.returns-then-not-covers-clause-served
returns-then-not-covers-clause-served g c =
    let old = c.args.self.now in
    let need = c.args.need in
    let d = c.args.deed.now in
    let f = forbids old.allow need (sym c.covers.ensures ∙ c.if-not-covers.true) in
    subst (λ (a : Answer). Serves a (Some d) old (reply.Forbidden need old.allow) old) (sym (forbidden_answer (state_of old) need d _ f)) (replied (Some d) old (reply.Forbidden need old.allow) refl)

pub returns-in-Ok-clause-served : goal.returns-in-Ok-clause-served
returns-in-Ok-clause-served g c =
    let old = c.args.self.now in
    let need = c.args.need in
    let d = c.args.deed.now in
    let f = permits old.allow need (sym c.covers.ensures ∙ c.if-not-covers.false) in
    let plan = plan_is old.live d.edit c.in-Ok.plan c.in-Ok.ensures.value in
    let unrefused = ap (λ (j : Journal). refusal_of j d.edit) (journal_is old old.no_year) ∙ plan.0 in
    accepted_by old _ _ need d _ refl (sym c.boxed_plan.ensures.stays) refl refl f unrefused c.put_plan.ensures.served

pub returns-in-Err-clause-served : goal.returns-in-Err-clause-served
returns-in-Err-clause-served g c =
    let old = c.args.self.now in
    let need = c.args.need in
    let d = c.args.deed.now in
    let f = permits old.allow need (sym c.covers.ensures ∙ c.if-not-covers.false) in
    rw c.refusal.ensures (recounted (edit_answer (state_of old) need d) (Some d) old (as_reply c.in-Err.fault) old _ refl c.boxed_plan.ensures.stays refl refl (refused_by old need d c.in-Err.fault f old.no_year c.in-Err.ensures.value))

pub returns-then-not-covers-clause-steps : goal.returns-then-not-covers-clause-steps
returns-then-not-covers-clause-steps g c = idle _ _ _ _

pub returns-in-Ok-clause-steps : goal.returns-in-Ok-clause-steps
returns-in-Ok-clause-steps g c = planned_steps c.args.self.now.live c.args.deed.now _ _ _ c.put_plan.ensures.accepted c.in-Ok.ensures.counts

pub returns-in-Err-clause-steps : goal.returns-in-Err-clause-steps
returns-in-Err-clause-steps g c = refused_steps _ _ c.in-Err.fault _ _ _ c.refusal.ensures c.in-Err.ensures.refused
