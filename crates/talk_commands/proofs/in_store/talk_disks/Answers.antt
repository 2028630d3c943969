use Rattle.std.proofs.Common.{refl}
use Rattle.store_commands.specs.Asking.{told_by}
use Rattle.talk_commands.specs.Links.{wire}
use Rattle.talk_commands.proofs.Closing.{disks_talked}
use Rattle.talk_commands.proofs.in_store.talk_disks.Goals as goal

pub returns-in-Ok-clause-talks : goal.returns-in-Ok-clause-talks
returns-in-Ok-clause-talks g c =
    let o = c.in-Ok.ensures in
    let t = c.talk_desk in
    disks_talked g.D.Disk c.args.terms.allow c.args.disks (t.result.0, t.result.1) c.in-Ok.desk
    (record { shown = o.opened; allowed = o.allowed; loads = o.loads; size = o.half; any_moment = o.any_moment; keeps = o.keeps; bounds = o.bounds; no_fault = o.no_fault })
    c.args.terms.day.0 (told_by g.M.Maker c.args.maker.now t.new.maker) (wire g.K.Link c.args.link.now t.new.link) t.result.2 t.ensures.talks

pub returns-in-Ok-clause-untouched : goal.returns-in-Ok-clause-untouched
returns-in-Ok-clause-untouched g c = c.talk_desk.ensures.untouched

pub returns-in-Err-clause-talks : goal.returns-in-Err-clause-talks
returns-in-Err-clause-talks g c =
    let o = c.in-Err.ensures in (
      record { fault = c.in-Err.fault; is = c.of_opening.ensures; cause = o.cause; stays = o.stays; any_moment = o.any_moment; keeps = o.keeps },
      record { count = refl; told = refl },
      record { sent = refl; reads = refl; writes = refl },
    )
