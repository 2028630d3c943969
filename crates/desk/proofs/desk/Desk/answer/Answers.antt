use Rattle.std.proofs.Common.{None, Some}
use Rattle.live_journal.specs.declared.edit.Edit.TheVariants as edit
use Rattle.live_journal.specs.declared.edit.Edit.{Edit}
use Rattle.desk.specs.declared.request.Allow.TheVariants as allow
use Rattle.desk.specs.Desks.{state_of}
use Rattle.desk.specs.States.{plain}
use Rattle.desk.proofs.Imported.{tells_import}
use Rattle.desk.proofs.Previewed.{seen_preview}
use Rattle.desk.proofs.Quiet.{quiet_check, quiet_download, quiet_edit}
use Rattle.desk.proofs.ReadingLaws.{idle, seen_steps}
use Rattle.desk.proofs.Refused.{no_rule_of_add, no_rule_of_change, no_rule_of_check, no_rule_of_download, no_rule_of_import, no_rule_of_preview, no_rule_of_replace, rule_of_report}
use Rattle.desk.proofs.Served.{downloaded, reported, was_add, was_change, was_check, was_import, was_preview, was_replace}
use Rattle.desk.proofs.desk.Desk.answer.Goals as goal

pub returns-in-Report-clause-served : goal.returns-in-Report-clause-served
returns-in-Report-clause-served g c = reported c.args.self.now c.args.day.0 c.args.request.now _ _ c.in-Report.is (rw c.as_slice.ensures at c.report.ensures.reply)

pub returns-in-Download-clause-served : goal.returns-in-Download-clause-served
returns-in-Download-clause-served g c = downloaded c.args.self.now c.args.day.0 c.args.request.now _ c.in-Download.is c.download.ensures

pub returns-in-Add-clause-served : goal.returns-in-Add-clause-served
returns-in-Add-clause-served g c = was_add c.args.self.now _ c.args.day.0 c.args.request.now _ _ c.in-Add.is (c.edit.ensures.served (edit.Add c.in-Add.entry) c.add.ensures)

pub returns-in-Change-clause-served : goal.returns-in-Change-clause-served
returns-in-Change-clause-served g c =
    was_change c.args.self.now _ c.args.day.0 c.args.request.now _ _ _ _ c.in-Change.is (c.edit-in-Change.ensures.served (edit.Change c.in-Change.base c.in-Change.item c.in-Change.entry) c.change.ensures)

pub returns-in-Replace-clause-served : goal.returns-in-Replace-clause-served
returns-in-Replace-clause-served g c =
    was_replace c.args.self.now _ c.args.day.0 c.args.request.now _ _ _ c.in-Replace.is (c.edit-in-Replace.ensures.served (edit.Replace c.in-Replace.base c.in-Replace.text) c.replace.ensures)

pub returns-in-Import-clause-served : goal.returns-in-Import-clause-served
returns-in-Import-clause-served g c =
    was_import c.args.self.now _ c.args.day.0 c.args.request.now _ _ _ _ c.in-Import.is (rw (c.as_slice-in-Import.ensures, c.as_slice-in-Import-2.ensures) at c.import.ensures.served)

pub returns-in-Report-clause-maker : goal.returns-in-Report-clause-maker
returns-in-Report-clause-maker g c = c.report.ensures.maker c.args.request.now

pub returns-in-Download-clause-maker : goal.returns-in-Download-clause-maker
returns-in-Download-clause-maker g c =
    let maker = g.M.Maker in
    let live = c.args.self.now.live in
    quiet_download c.args.request.now c.args.day.0 (maker.refusals c.args.maker.now) (maker.last_refused c.args.maker.now) live.revision live.text _ c.download.ensures

pub returns-in-Add-clause-maker : goal.returns-in-Add-clause-maker
returns-in-Add-clause-maker g c =
    let maker = g.M.Maker in
    let served = c.edit.ensures.served (edit.Add c.in-Add.entry) c.add.ensures in
    quiet_edit c.args.request.now c.args.day.0 (maker.refusals c.args.maker.now) (maker.last_refused c.args.maker.now) (state_of c.args.self.now) allow.Add (plain (edit.Add c.in-Add.entry)) (Some (plain (edit.Add c.in-Add.entry))) _ _ _ _ _ served.gives

pub returns-in-Change-clause-maker : goal.returns-in-Change-clause-maker
returns-in-Change-clause-maker g c =
    let maker = g.M.Maker in
    let e : Edit = edit.Change c.in-Change.base c.in-Change.item c.in-Change.entry in
    let served = c.edit-in-Change.ensures.served e c.change.ensures in
    quiet_edit c.args.request.now c.args.day.0 (maker.refusals c.args.maker.now) (maker.last_refused c.args.maker.now) (state_of c.args.self.now) allow.Edit (plain e) (Some (plain e)) _ _ _ _ _ served.gives

pub returns-in-Replace-clause-maker : goal.returns-in-Replace-clause-maker
returns-in-Replace-clause-maker g c =
    let maker = g.M.Maker in
    let e : Edit = edit.Replace c.in-Replace.base c.in-Replace.text in
    let served = c.edit-in-Replace.ensures.served e c.replace.ensures in
    quiet_edit c.args.request.now c.args.day.0 (maker.refusals c.args.maker.now) (maker.last_refused c.args.maker.now) (state_of c.args.self.now) allow.Edit (plain e) (Some (plain e)) _ _ _ _ _ served.gives

pub returns-in-Import-clause-maker : goal.returns-in-Import-clause-maker
returns-in-Import-clause-maker g c =
    let maker = g.M.Maker in
    tells_import c.args.request.now _ _ _ c.args.day.0 (maker.refusals c.args.maker.now) (maker.refusals c.import.new.maker) (maker.last_refused c.args.maker.now) (maker.last_refused c.import.new.maker) c.import.result c.in-Import.is
    (rw (c.as_slice-in-Import.ensures, c.as_slice-in-Import-2.ensures) at (c.import.ensures.maker c.args.day.0))

pub returns-in-Report-clause-rule : goal.returns-in-Report-clause-rule
returns-in-Report-clause-rule g c =
    let maker = g.M.Maker in
    rule_of_report c.args.request.now c.args.self.now.live.text c.args.day.0 (maker.refusals c.args.maker.now) (maker.refusals c.report.new.maker) (maker.last_refused c.report.new.maker) c.report.result _ c.in-Report.is (rw c.as_slice.ensures at c.report.ensures.rule)

pub returns-in-Download-clause-rule : goal.returns-in-Download-clause-rule
returns-in-Download-clause-rule g c =
    let maker = g.M.Maker in
    no_rule_of_download c.args.request.now c.args.self.now.live.text c.args.day.0 (maker.refusals c.args.maker.now) (maker.refusals c.args.maker.now) (maker.last_refused c.args.maker.now) c.download.result c.in-Download.is

pub returns-in-Add-clause-rule : goal.returns-in-Add-clause-rule
returns-in-Add-clause-rule g c =
    let maker = g.M.Maker in
    no_rule_of_add c.args.request.now c.args.self.now.live.text c.args.day.0 (maker.refusals c.args.maker.now) (maker.refusals c.args.maker.now) (maker.last_refused c.args.maker.now) c.edit.result _ c.in-Add.is

pub returns-in-Change-clause-rule : goal.returns-in-Change-clause-rule
returns-in-Change-clause-rule g c =
    let maker = g.M.Maker in
    no_rule_of_change c.args.request.now c.args.self.now.live.text c.args.day.0 (maker.refusals c.args.maker.now) (maker.refusals c.args.maker.now) (maker.last_refused c.args.maker.now) c.edit-in-Change.result _ _ _ c.in-Change.is

pub returns-in-Replace-clause-rule : goal.returns-in-Replace-clause-rule
returns-in-Replace-clause-rule g c =
    let maker = g.M.Maker in
    no_rule_of_replace c.args.request.now c.args.self.now.live.text c.args.day.0 (maker.refusals c.args.maker.now) (maker.refusals c.args.maker.now) (maker.last_refused c.args.maker.now) c.edit-in-Replace.result _ _ c.in-Replace.is

pub returns-in-Import-clause-rule : goal.returns-in-Import-clause-rule
returns-in-Import-clause-rule g c =
    let maker = g.M.Maker in
    no_rule_of_import c.args.request.now c.args.self.now.live.text c.args.day.0 (maker.refusals c.args.maker.now) (maker.refusals c.import.new.maker) (maker.last_refused c.import.new.maker) c.import.result _ _ _ c.in-Import.is

pub returns-in-Report-clause-steps : goal.returns-in-Report-clause-steps
returns-in-Report-clause-steps g c =
    seen_steps c.args.self.now.live (state_of c.args.self.now) c.args.day.0 c.args.request.now _ _ _ _ c.in-Report.is (rw c.as_slice.ensures at c.report.ensures.steps)

pub returns-in-Download-clause-steps : goal.returns-in-Download-clause-steps
returns-in-Download-clause-steps g c =
    seen_steps c.args.self.now.live (state_of c.args.self.now) c.args.day.0 c.args.request.now _ _ _ _ c.in-Download.is (idle _ _ _ _)

pub returns-in-Add-clause-steps : goal.returns-in-Add-clause-steps
returns-in-Add-clause-steps g c =
    seen_steps c.args.self.now.live (state_of c.args.self.now) c.args.day.0 c.args.request.now _ _ _ _ c.in-Add.is (c.edit.ensures.steps (edit.Add c.in-Add.entry) c.add.ensures)

pub returns-in-Change-clause-steps : goal.returns-in-Change-clause-steps
returns-in-Change-clause-steps g c =
    let e : Edit = edit.Change c.in-Change.base c.in-Change.item c.in-Change.entry in
    seen_steps c.args.self.now.live (state_of c.args.self.now) c.args.day.0 c.args.request.now _ _ _ _ c.in-Change.is (c.edit-in-Change.ensures.steps e c.change.ensures)

pub returns-in-Replace-clause-steps : goal.returns-in-Replace-clause-steps
returns-in-Replace-clause-steps g c =
    let e : Edit = edit.Replace c.in-Replace.base c.in-Replace.text in
    seen_steps c.args.self.now.live (state_of c.args.self.now) c.args.day.0 c.args.request.now _ _ _ _ c.in-Replace.is (c.edit-in-Replace.ensures.steps e c.replace.ensures)

pub returns-in-Import-clause-steps : goal.returns-in-Import-clause-steps
returns-in-Import-clause-steps g c =
    seen_steps c.args.self.now.live (state_of c.args.self.now) c.args.day.0 c.args.request.now _ _ _ _ c.in-Import.is
    (rw (c.as_slice-in-Import.ensures, c.as_slice-in-Import-2.ensures) at c.import.ensures.steps)

pub returns-in-Check-clause-served : goal.returns-in-Check-clause-served
returns-in-Check-clause-served g c =
    was_check c.args.self.now _ c.args.day.0 c.args.request.now _ _ c.in-Check.is (c.check.ensures.served (edit.Add c.in-Check.entry) c.add-in-Check.ensures)

pub returns-in-Preview-clause-served : goal.returns-in-Preview-clause-served
returns-in-Preview-clause-served g c =
    was_preview c.args.self.now _ c.args.day.0 c.args.request.now _ _ _ _ c.in-Preview.is (rw (c.as_slice-in-Preview.ensures, c.as_slice-in-Preview-2.ensures) at c.preview.ensures.served)

pub returns-in-Check-clause-maker : goal.returns-in-Check-clause-maker
returns-in-Check-clause-maker g c =
    let maker = g.M.Maker in
    let e : Edit = edit.Add c.in-Check.entry in
    let served = c.check.ensures.served e c.add-in-Check.ensures in
    quiet_check c.args.request.now c.args.day.0 (maker.refusals c.args.maker.now) (maker.last_refused c.args.maker.now) (state_of c.args.self.now) (plain e) None _ _ _ _ _ served.gives

pub returns-in-Preview-clause-maker : goal.returns-in-Preview-clause-maker
returns-in-Preview-clause-maker g c =
    let maker = g.M.Maker in
    seen_preview c.args.request.now _ _ _ c.args.day.0 (maker.refusals c.args.maker.now) (maker.refusals c.preview.new.maker) (maker.last_refused c.args.maker.now) (maker.last_refused c.preview.new.maker) c.preview.result c.in-Preview.is
    (rw (c.as_slice-in-Preview.ensures, c.as_slice-in-Preview-2.ensures) at (c.preview.ensures.maker c.args.day.0))

pub returns-in-Check-clause-rule : goal.returns-in-Check-clause-rule
returns-in-Check-clause-rule g c =
    let maker = g.M.Maker in
    no_rule_of_check c.args.request.now c.args.self.now.live.text c.args.day.0 (maker.refusals c.args.maker.now) (maker.refusals c.args.maker.now) (maker.last_refused c.args.maker.now) c.check.result _ c.in-Check.is

pub returns-in-Preview-clause-rule : goal.returns-in-Preview-clause-rule
returns-in-Preview-clause-rule g c =
    let maker = g.M.Maker in
    no_rule_of_preview c.args.request.now c.args.self.now.live.text c.args.day.0 (maker.refusals c.args.maker.now) (maker.refusals c.preview.new.maker) (maker.last_refused c.preview.new.maker) c.preview.result _ _ _ c.in-Preview.is

pub returns-in-Check-clause-steps : goal.returns-in-Check-clause-steps
returns-in-Check-clause-steps g c =
    seen_steps c.args.self.now.live (state_of c.args.self.now) c.args.day.0 c.args.request.now _ _ _ _ c.in-Check.is (c.check.ensures.steps (edit.Add c.in-Check.entry) c.add-in-Check.ensures)

pub returns-in-Preview-clause-steps : goal.returns-in-Preview-clause-steps
returns-in-Preview-clause-steps g c =
    seen_steps c.args.self.now.live (state_of c.args.self.now) c.args.day.0 c.args.request.now _ _ _ _ c.in-Preview.is
    (rw (c.as_slice-in-Preview.ensures, c.as_slice-in-Preview-2.ensures) at c.preview.ensures.steps)
