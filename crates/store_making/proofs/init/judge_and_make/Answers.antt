use Rattle.std.proofs.Common.{refl}
use Rattle.store_making.proofs.MakingLaws.{of_files, of_judged}
use Rattle.store_making.proofs.init.judge_and_make.Goals as goal

pub returns-in-Err : goal.returns-in-Err
returns-in-Err g c =
    of_judged _ g.S.Shelf g.S.Disk.Disk c.args.name.now c.args.text.now c.args.limit c.args.shelf.now c.args.shelf.now c.in-Err.refusal c.in-Err.ensures.cause refl

pub returns : goal.returns
returns g c =
    rw c.of_store.ensures
    (of_files _ g.S.Shelf g.S.Disk.Disk c.args.name.now c.args.text.now c.args.limit c.args.shelf.now c.make_files.new.shelf c.in-Err-make_files.refusal
    c.in_default.ensures.good c.in-Err-make_files.ensures)
