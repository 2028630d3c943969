use Rattle.desk.specs.declared.request.Request.TheVariants as request
use Rattle.desk.specs.Desks.{state_of}
use Rattle.desk.specs.Imports.{entries_of}
use Rattle.desk.proofs.DryLaws.{refused_serves}
use Rattle.desk.proofs.Imported.{file_deed, put_in}
use Rattle.desk.proofs.Quiet.{deed_quiet, tells_quietly}
use Rattle.desk.proofs.ReadingLaws.{idle, same_steps}
use Rattle.desk.proofs.desk.Desk.import.Goals as goal

pub returns-in-Ok-clause-maker : goal.returns-in-Ok-clause-maker
returns-in-Ok-clause-maker g c = λ day.
    let s = state_of c.args.self.now in
    tells_quietly (request.Import c.args.name.now c.args.rules.now c.args.csv.now) day _ _ _ _ c.put_deed.result
    (deed_quiet s c.in-Ok.deed c.in-Ok.deed _ _ _ _ _ c.put_deed.ensures.served.gives) (c.in-Ok.ensures.maker day)

pub returns-in-Ok-clause-served : goal.returns-in-Ok-clause-served
returns-in-Ok-clause-served g c =
    put_in c.args.name.now c.args.rules.now c.args.csv.now c.args.self.now c.put_deed.new.self c.in-Ok.deed c.put_deed.result c.in-Ok.ensures.deed c.put_deed.ensures.served

pub returns-in-Ok-clause-steps : goal.returns-in-Ok-clause-steps
returns-in-Ok-clause-steps g c =
    let deed = file_deed (state_of c.args.self.now) c.args.name.now (entries_of c.args.rules.now c.args.csv.now) c.in-Ok.deed c.in-Ok.ensures.deed in
    same_steps _ _ _ _ _ _ deed c.put_deed.ensures.steps

pub returns-in-Err-clause-maker : goal.returns-in-Err-clause-maker
returns-in-Err-clause-maker g c = λ day. c.in-Err.ensures.maker day

pub returns-in-Err-clause-served : goal.returns-in-Err-clause-served
returns-in-Err-clause-served g c = refused_serves c.args.self.now _ _ c.in-Err.reply c.in-Err.ensures.refusal

pub returns-in-Err-clause-steps : goal.returns-in-Err-clause-steps
returns-in-Err-clause-steps g c = idle _ _ _ _
