use Rattle.std.proofs.Common.{refl}
use Rattle.store_commands.proofs.asking.replace_in_disks.Goals as goal

pub returns-in-Ok : goal.returns-in-Ok
returns-in-Ok g c =
    let o = c.in-Ok.ensures in (
      c.in-Ok.desk,
      record {
        shown = o.opened;
        allowed = o.allowed;
        loads = o.loads;
        size = o.half;
        any_moment = o.any_moment;
        keeps = o.keeps;
        bounds = o.bounds;
        no_fault = o.no_fault;
      },
      c.replace_in_desk-first.ensures,
    )

pub returns-in-Err : goal.returns-in-Err
returns-in-Err g c =
    let o = c.in-Err.ensures in (
      record { fault = c.in-Err.fault; is = c.of_opening.ensures; cause = o.cause; stays = o.stays; any_moment = o.any_moment; keeps = o.keeps },
      record { count = refl; told = refl },
    )
