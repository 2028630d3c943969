use Rattle.std.proofs.Common.{Option, Some, refl, sym, subst}
use Rattle.live_journal.specs.Journals.{Journal}
use Rattle.live_journal.specs.Refusals.{planned}
use Rattle.desk.specs.declared.deed.Deed.{Deed}
use Rattle.desk.specs.declared.request.Allow.TheVariants as allow
use Rattle.desk.specs.Desks.{state_of}
use Rattle.desk.specs.DryRuns.{IsDryReply, IsToldOf, added_in, inserted_by}
use Rattle.desk.specs.States.{deed_answer, edit_answer}
use Rattle.desk.proofs.DryLaws.{told_dry, unchanged}
use Rattle.desk.proofs.Previewed.{none_new}
use Rattle.desk.proofs.ReadingLaws.{idle, same_steps, told_steps}
use Rattle.desk.proofs.desk.Desk.preview_deed.Goals as goal

pub returns-in-Some-clause-replied : goal.returns-in-Some-clause-replied
returns-in-Some-clause-replied g c =
    let old = c.args.self.now in
    let s = state_of old in
    let d = c.in-Some.deed in
    let r = c.previewed.result in
    let made = c.dry_run-made.result in
    let told = subst (λ (j : Journal). IsToldOf j.revision added_in made r) c.dry_run-made.ensures.stays.live c.previewed.ensures in
    let replied : IsDryReply s (inserted_by s (Some d)) (deed_answer s (Some d)) r =
    told_dry s (edit_answer s allow.Add d) (planned old.live d.edit) added_in made (inserted_by s (Some d)) r c.dry_run-made.ensures.runs told (λ done. refl) in
    subst (λ (o : Option Deed). IsDryReply s (inserted_by s o) (deed_answer s o) r) (sym c.in-Some.is) replied

pub returns-in-Some-clause-stays : goal.returns-in-Some-clause-stays
returns-in-Some-clause-stays g c = c.dry_run-made.ensures.stays

pub returns-in-Some-clause-steps : goal.returns-in-Some-clause-steps
returns-in-Some-clause-steps g c =
    same_steps _ _ _ _ _ _ c.in-Some.is
    (told_steps c.args.self.now.live c.in-Some.deed c.dry_run-made.new.self.live.revision added_in c.dry_run-made.result c.previewed.result _ _ c.dry_run-made.ensures.steps c.previewed.ensures)

pub returns-in-None-clause-replied : goal.returns-in-None-clause-replied
returns-in-None-clause-replied g c = rw (c.in-None.is, c.revision-revision.ensures) (none_new (state_of c.args.self.now))

pub returns-in-None-clause-stays : goal.returns-in-None-clause-stays
returns-in-None-clause-stays g c = unchanged c.args.self.now

pub returns-in-None-clause-steps : goal.returns-in-None-clause-steps
returns-in-None-clause-steps g c = idle _ _ _ _
