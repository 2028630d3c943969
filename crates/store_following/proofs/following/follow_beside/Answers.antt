use Rattle.std.proofs.Common.{true}
use Rattle.store_text.proofs.LendingLaws.{apart_at, out_places}
use Rattle.store_following.proofs.StoreLaws.{through_at, untaken_at}
use Rattle.store_following.proofs.following.follow_beside.Goals as goal

pub give_back_disks-requires-clause-places : goal.give_back_disks-requires-clause-places
give_back_disks-requires-clause-places g c κs within =
    out_places g.S.Shelf g.S.Disk.Disk true c.args.name.now c.args.beside.now c.args.shelf.now c.take_disks.new.shelf (c.in-Ok.first, c.in-Ok.second) c.in-Ok.ensures

pub give_back_disks-requires-clause-apart : goal.give_back_disks-requires-clause-apart
give_back_disks-requires-clause-apart g c κs within = apart_at c.args.name.now c.args.beside.now c.requires

pub returns-in-Ok : goal.returns-in-Ok
returns-in-Ok g c =
    let d = c.follow_disks-first in
    through_at g.J.Source g.S.Shelf g.S.Disk.Disk c.args.name.now c.args.limit c.args.source.now c.args.shelf.now c.args.beside.now c.requires
    d.new.source c.take_disks.new.shelf c.give_back_disks.new.shelf (c.in-Ok.first, c.in-Ok.second) (d.result.0, d.result.1) d.result.2
    c.in-Ok.ensures d.ensures c.give_back_disks.ensures

pub returns-in-Err : goal.returns-in-Err
returns-in-Err g c =
    untaken_at g.J.Source g.S.Shelf g.S.Disk.Disk c.args.name.now c.args.limit c.args.source.now c.args.shelf.now c.args.beside.now c.requires
    c.take_disks.new.shelf c.in-Err.refusal c.in-Err.ensures
