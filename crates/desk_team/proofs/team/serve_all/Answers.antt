use Rattle.std.proofs.Common.{ap, subst}
use Rattle.desk_team.specs.Teams.{ServesTeam, told_of}
use Rattle.desk_team.proofs.team.serve_all.Goals as goal

pub returns-in-Ok-new-clause-served : goal.returns-in-Ok-new-clause-served
returns-in-Ok-new-clause-served g c =
    let link = g.R.Link.Link in
    let told = told_of g.R.Door g.C.Clock g.M.Maker in
    let closed = c.serve_under.result in
    subst (λ desk. ServesTeam link.coming link.sent c.args.page.now c.args.limit desk (told c.args.kits) (told closed.kits) closed.failed closed.pass.seen closed.desk)
    (ap (λ s. s.desk) c.in-Ok-new.ensures.1) c.serve_under.ensures.served

pub returns-in-Ok-new-clause-sound : goal.returns-in-Ok-new-clause-sound
returns-in-Ok-new-clause-sound g c = λ sound. c.serve_under.ensures.sound sound
