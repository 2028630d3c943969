use Rattle.desk.specs.declared.request.Request.TheVariants as request
use Rattle.desk.specs.Desks.{state_of}
use Rattle.desk.specs.DryRuns.{inserted_by}
use Rattle.desk.specs.Imports.{entries_of}
use Rattle.desk.specs.States.{added_by, import_answer}
use Rattle.desk.proofs.DryLaws.{dry_serves, refused_dry, unchanged}
use Rattle.desk.proofs.Imported.{file_deed}
use Rattle.desk.proofs.Previewed.{preview_quiet, previewed, tells_preview}
use Rattle.desk.proofs.Quiet.{tells_quietly}
use Rattle.desk.proofs.ReadingLaws.{idle, same_steps}
use Rattle.desk.proofs.desk.Desk.preview.Goals as goal

pub returns-in-Ok-clause-maker : goal.returns-in-Ok-clause-maker
returns-in-Ok-clause-maker g c = λ day.
    let s = state_of c.args.self.now in
    tells_quietly (request.Preview c.args.name.now c.args.rules.now c.args.csv.now) day _ _ _ _ c.preview_deed.result
    (preview_quiet s (inserted_by s c.in-Ok.deed) c.in-Ok.deed c.preview_deed.result c.preview_deed.ensures.replied) (c.in-Ok.ensures.maker day)

pub returns-in-Ok-clause-served : goal.returns-in-Ok-clause-served
returns-in-Ok-clause-served g c =
    previewed c.args.name.now c.args.rules.now c.args.csv.now c.args.self.now c.preview_deed.new.self c.in-Ok.deed c.preview_deed.result
    c.in-Ok.ensures.deed c.preview_deed.ensures.replied c.preview_deed.ensures.stays

pub returns-in-Ok-clause-counts : goal.returns-in-Ok-clause-counts
returns-in-Ok-clause-counts g c = c.preview_deed.ensures.stays.counts

pub returns-in-Ok-clause-steps : goal.returns-in-Ok-clause-steps
returns-in-Ok-clause-steps g c =
    let deed = file_deed (state_of c.args.self.now) c.args.name.now (entries_of c.args.rules.now c.args.csv.now) c.in-Ok.deed c.in-Ok.ensures.deed in
    same_steps _ _ _ _ _ _ deed c.preview_deed.ensures.steps

pub returns-in-Err-clause-maker : goal.returns-in-Err-clause-maker
returns-in-Err-clause-maker g c = λ day.
    tells_preview c.args.name.now c.args.rules.now c.args.csv.now day _ _ _ _ c.in-Err.reply (c.in-Err.ensures.maker day)

pub returns-in-Err-clause-served : goal.returns-in-Err-clause-served
returns-in-Err-clause-served g c =
    let old = c.args.self.now in
    let s = state_of old in
    let answer = import_answer s c.args.name.now c.args.rules.now c.args.csv.now in
    dry_serves old old (added_by s answer) answer c.in-Err.reply (refused_dry s (added_by s answer) answer c.in-Err.reply c.in-Err.ensures.refusal) (unchanged old)

pub returns-in-Err-clause-steps : goal.returns-in-Err-clause-steps
returns-in-Err-clause-steps g c = idle _ _ _ _
