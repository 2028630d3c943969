use Rattle.std.proofs.Common.{refl}
use Rattle.shared_desk.specs.Stays.{kit_told}
use Rattle.serve_commands.proofs.AnswerLaws.{disks_so}
use Rattle.serve_commands.proofs.disks.serve_disks.Goals as goal

pub returns-in-Ok : goal.returns-in-Ok
returns-in-Ok g c =
    let tell = kit_told g.H.Door.Door g.H.Clock.Clock g.H.Maker.Maker in
    let link = g.H.Door.Link.Link in
    let o = c.in-Ok.ensures in
    let d = c.serve_desk-first in
    disks_so tell link.coming link.sent c.args.page.now (g.H.House.told c.args.house.now) (g.H.House.told d.new.house) c.args.post (c.args.first, c.args.second)
    (d.result.0, d.result.1) c.in-Ok.desk
    (record { shown = o.opened; allows = o.allowed; loads = o.loads; size = o.half; counts = o.counts; keeps = o.keeps })
    d.result.2 d.ensures c.of_house.result c.of_house.ensures

pub returns-in-Err : goal.returns-in-Err
returns-in-Err g c =
    let o = c.in-Err.ensures in
    (record { fault = c.in-Err.fault; is = c.of_opening.ensures; cause = o.cause; stays = o.stays; any_moment = o.any_moment; keeps = o.keeps }, refl)
