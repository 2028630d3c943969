use Rattle.std.proofs.Common.{refl}
use Rattle.shared_desk.specs.Stays.{kit_told}
use Rattle.desk_team.proofs.Takings.{err_on, hosts_bound, ok_on, unbound, unserved_bound}
use Rattle.desk_team.proofs.hosting.serve_house.Goals as goal

pub returns-in-Ok-clause-served : goal.returns-in-Ok-clause-served
returns-in-Ok-clause-served g c =
    let tell = kit_told g.H.Door.Door g.H.Clock.Clock g.H.Maker.Maker in
    let link = g.H.Door.Link.Link in
    let old = g.H.House.told c.args.house.now in
    let mid = g.H.House.told c.bind.new.self in
    let new = g.H.House.told c.serve_bound.new.house in
    let at = c.args.address in
    ok_on _ _ c.serve_bound.result
    (λ hosted h. hosts_bound tell link.coming link.sent c.args.page.now c.args.crew.workers c.args.crew.links c.args.desk hosted.desk old mid new
    hosted.failed hosted.pass.seen at.host at.port tt c.in-Ok.ensures h) c.serve_bound.ensures.served

pub returns-in-Ok-clause-unserved : goal.returns-in-Ok-clause-unserved
returns-in-Ok-clause-unserved g c =
    let old = g.H.House.told c.args.house.now in
    let mid = g.H.House.told c.bind.new.self in
    let new = g.H.House.told c.serve_bound.new.house in
    let at = c.args.address in
    err_on _ _ c.serve_bound.result
    (λ left u. (u.0, unserved_bound c.args.crew.workers old mid new left.1 at.host at.port tt c.in-Ok.ensures u.1)) c.serve_bound.ensures.unserved

pub returns-in-Err-clause-unserved : goal.returns-in-Err-clause-unserved
returns-in-Err-clause-unserved g c =
    let at = c.args.address in
    (refl, unbound c.args.crew.workers (g.H.House.told c.args.house.now) (g.H.House.told c.bind.new.self) at.host at.port _ c.in-Err.ensures)
