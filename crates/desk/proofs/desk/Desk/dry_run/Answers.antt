use Rattle.std.proofs.Common.{refl, ap, sym, subst, ◌∙◌}
use Rattle.live_journal.specs.Journals.{Journal}
use Rattle.live_journal.specs.Loading.{first_of}
use Rattle.live_journal.specs.Refusals.{planned, refusal_of}
use Rattle.desk.specs.declared.reply.Reply.TheVariants as reply
use Rattle.desk.specs.declared.request.Allow.TheVariants as allow
use Rattle.desk.specs.Desks.{state_of}
use Rattle.desk.specs.DryRuns.{IsDryRun}
use Rattle.desk.specs.States.{Answer, cases_left, or_done}
use Rattle.desk.proofs.DryEdits.{fault_refusal, forbidden_dry}
use Rattle.desk.proofs.DryLaws.{unchanged}
use Rattle.desk.proofs.ReadingLaws.{fault_dry, idle, planned_dry}
use Rattle.desk.proofs.Served.{accepted_answer, forbids, journal_is, permits, plan_is}
use Rattle.desk.proofs.Still.{state_by}
use Rattle.desk.proofs.desk.Desk.dry_run.Goals as goal

pub returns-then-not-covers-clause-runs : goal.returns-then-not-covers-clause-runs
returns-then-not-covers-clause-runs g c =
    let old = c.args.self.now in
    let f = forbids old.allow allow.Add (sym c.covers.ensures ∙ c.if-not-covers.true) in
    forbidden_dry (state_of old) allow.Add c.args.deed.now (reply.Forbidden allow.Add old.allow) f refl

pub returns-then-not-covers-clause-stays : goal.returns-then-not-covers-clause-stays
returns-then-not-covers-clause-stays g c = unchanged c.args.self.now

pub returns-then-not-covers-clause-steps : goal.returns-then-not-covers-clause-steps
returns-then-not-covers-clause-steps g c = idle _ _ _ _

pub returns-in-Ok-clause-runs : goal.returns-in-Ok-clause-runs
returns-in-Ok-clause-runs g c =
    let old = c.args.self.now in
    let s = state_of old in
    let d = c.args.deed.now in
    let f = permits old.allow allow.Add (sym c.covers.ensures ∙ c.if-not-covers.false) in
    let plan = plan_is old.live d.edit c.in-Ok.plan c.in-Ok.ensures.value in
    let unrefused = ap (λ (j : Journal). refusal_of j d.edit) (journal_is old old.no_year) ∙ plan.0 in
    let F : Journal → Type 0 = λ j.
    let at = state_by old.store j old.latest old.allow in
    IsDryRun at (or_done at d (first_of (cases_left at d))) (planned j d.edit) c.if_stored.result in
    subst (λ (a : Answer). IsDryRun s a (planned old.live d.edit) c.if_stored.result) (sym (accepted_answer s allow.Add d f unrefused))
    (subst F c.boxed_plan.ensures.stays c.if_stored.ensures.runs)

pub returns-in-Ok-clause-stays : goal.returns-in-Ok-clause-stays
returns-in-Ok-clause-stays g c = record { store = refl; live = c.boxed_plan.ensures.stays; latest = refl; allowed = refl; counts = refl }

pub returns-in-Ok-clause-steps : goal.returns-in-Ok-clause-steps
returns-in-Ok-clause-steps g c = planned_dry c.args.self.now.live c.args.deed.now c.if_stored.result _ _ c.if_stored.ensures.accepted c.in-Ok.ensures.counts

pub if_stored-requires : goal.if_stored-requires
if_stored-requires g c =
    let old = c.args.self.now in
    let d = c.args.deed.now in
    (plan_is old.live d.edit c.in-Ok.plan c.in-Ok.ensures.value).1 ∙ ap (λ (j : Journal). planned j d.edit) (sym c.boxed_plan.ensures.stays)

pub returns-in-Err-clause-runs : goal.returns-in-Err-clause-runs
returns-in-Err-clause-runs g c =
    let old = c.args.self.now in
    let f = permits old.allow allow.Add (sym c.covers.ensures ∙ c.if-not-covers.false) in
    rw c.refusal.ensures (fault_refusal old allow.Add c.args.deed.now f old.no_year c.in-Err.fault c.in-Err.ensures.value)

pub returns-in-Err-clause-stays : goal.returns-in-Err-clause-stays
returns-in-Err-clause-stays g c = record { store = refl; live = c.boxed_plan.ensures.stays; latest = refl; allowed = refl; counts = refl }

pub returns-in-Err-clause-steps : goal.returns-in-Err-clause-steps
returns-in-Err-clause-steps g c = fault_dry c.args.self.now.live c.args.deed.now c.in-Err.fault c.refusal.result _ _ c.refusal.ensures c.in-Err.ensures.refused
