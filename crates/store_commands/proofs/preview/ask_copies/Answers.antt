use Rattle.std.proofs.Common.{Result, Err, arith, subst, sym}
use Rattle.desk.specs.declared.reply.Reply.{Reply}
use Rattle.store_making.specs.declared.refusal.JournalRefusal.{JournalRefusal}
use Rattle.store_commands.specs.Asking.{AsksDisks, told_by}
use Rattle.store_commands.specs.Previews.{Previews}
use Rattle.store_commands.specs.declared.preview.Preview.{Preview}
use Rattle.store_commands.proofs.PreviewLaws.{previews_told, previews_unopened}
use Rattle.store_commands.proofs.preview.ask_copies.Goals as goal

abbrev unmade : JournalRefusal → Result Preview JournalRefusal
unmade e = Err e

pub returns-in-Ok : goal.returns-in-Ok
returns-in-Ok g c =
    let d = c.ask_disks-one in
    let edit = c.args.edit.now in
    let p = told_by g.M.Maker c.args.maker.now d.new.maker in
    let asks = subst (λ (x : Result Reply JournalRefusal).
    AsksDisks g.D.Disk c.args.copies (d.result.0, d.result.1) edit.request edit.day p x) c.in-Ok.is d.ensures in
    previews_told g.D.Disk c.args.copies c.args.files.now.first.now c.args.files.now.second.now c.requires.first c.requires.second edit.request edit.day
    p c.requires.edit c.in-Ok.reply (d.result.0, d.result.1) c.preview_of_reply.result
    (omega (arith, c.requires.clean.0, c.requires.clean.1)) asks c.preview_of_reply.ensures.says c.preview_of_reply.ensures.memory

pub returns-in-Err : goal.returns-in-Err
returns-in-Err g c =
    let d = c.ask_disks-one in
    let edit = c.args.edit.now in
    let p = told_by g.M.Maker c.args.maker.now d.new.maker in
    let asks = subst (λ (x : Result Reply JournalRefusal).
    AsksDisks g.D.Disk c.args.copies (d.result.0, d.result.1) edit.request edit.day p x) c.in-Err.is d.ensures in
    subst (λ (e : JournalRefusal). Previews c.args.files.now.first.now c.args.files.now.second.now edit.request edit.day.0 p (unmade e)) (sym c.of_copy.ensures)
    (previews_unopened g.D.Disk c.args.copies c.args.files.now.first.now c.args.files.now.second.now c.requires.first c.requires.second edit.request edit.day
    p c.requires.edit c.in-Err.refusal (d.result.0, d.result.1) asks)
