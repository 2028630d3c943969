use Rattle.std.proofs.Common.{sym, subst, ◌∙◌}
use Rattle.shared_desk.specs.Stays.{kit_told}
use Rattle.desk_team.specs.Hostings.{AreAllOut, TakesAll}
use Rattle.desk_team.proofs.Takings.{served_as, still_out}
use Rattle.desk_team.proofs.hosting.serve_kits.Goals as goal

pub conclude-requires-clause-out : goal.conclude-requires-clause-out
conclude-requires-clause-out g c κs within =
    let tell = kit_told g.H.Door.Door g.H.Clock.Clock g.H.Maker.Maker in
    let link = g.H.Door.Link.Link in
    let closed = c.in-Ok.closed in
    still_out tell link.coming link.sent c.args.page.now c.args.links c.args.desk closed.desk (g.H.House.told c.args.house.now) c.args.kits closed.kits
    closed.failed closed.pass.seen c.in-Ok.ensures.served c.requires.out

pub give_back_all-requires-clause-out : goal.give_back_all-requires-clause-out
give_back_all-requires-clause-out g c κs within =
    subst (λ kits. AreAllOut (g.H.House.told c.args.house.now) kits) (sym c.in-Err.ensures.back.1) c.requires.out

pub returns-in-Ok-clause-served : goal.returns-in-Ok-clause-served
returns-in-Ok-clause-served g c =
    let tell = kit_told g.H.Door.Door g.H.Clock.Clock g.H.Maker.Maker in
    let link = g.H.Door.Link.Link in
    let closed = c.in-Ok.closed in
    let hosted = c.conclude.result in (
      closed.kits,
      served_as tell link.coming link.sent c.args.page.now c.args.links c.args.desk c.args.kits closed.kits closed.desk hosted.desk closed.pass hosted.pass
          closed.failed hosted.failed c.conclude.ensures.desk c.conclude.ensures.pass c.conclude.ensures.failed c.in-Ok.ensures.served,
      c.conclude.ensures.back,
    )

pub returns-in-Ok-clause-sound : goal.returns-in-Ok-clause-sound
returns-in-Ok-clause-sound g c = λ sound. c.conclude.ensures.failed ∙ c.in-Ok.ensures.sound sound

pub returns-in-Err-clause-unserved : goal.returns-in-Err-clause-unserved
returns-in-Err-clause-unserved g c =
    let tell = kit_told g.H.Door.Door g.H.Clock.Clock g.H.Maker.Maker in (
      c.in-Err.ensures.back.0,
      subst (λ kits. TakesAll tell (g.H.House.told c.args.house.now) (g.H.House.told c.give_back_all.new.house) kits) c.in-Err.ensures.back.1 c.give_back_all.ensures,
    )
