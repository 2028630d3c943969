use Rattle.store_making.proofs.MakingLaws.{completes}
use Rattle.store_making.proofs.init.init_store.Goals as goal

pub returns : goal.returns
returns g c =
    let made = c.judge_and_make in
    record {
      outcome = made.ensures;
      complete = completes _ g.S.Shelf g.S.Disk.Disk c.args.name.now c.args.text.now c.args.limit c.args.shelf.now made.new.shelf made.result made.ensures;
    }
