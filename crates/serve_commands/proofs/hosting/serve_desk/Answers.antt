use Rattle.std.proofs.Common.{◌∙◌, ap}
use Rattle.shared_desk.specs.Stays.{kit_told}
use Rattle.text_store.specs.Stores.{disks}
use Rattle.serve_commands.proofs.AnswerLaws.{hosted_so}
use Rattle.serve_commands.proofs.hosting.serve_desk.Goals as goal

pub returns-in-Ok : goal.returns-in-Ok
returns-in-Ok g c =
    let tell = kit_told g.H.Door.Door g.H.Clock.Clock g.H.Maker.Maker in
    let link = g.H.Door.Link.Link in
    let hosted = c.in-Ok.hosted in
    let closed = c.close_hosted-first in
    hosted_so tell link.coming link.sent c.args.page.now (g.H.House.told c.args.house.now) (g.H.House.told c.serve_house.new.house) c.args.desk hosted.desk
    c.args.address c.args.crew closed.result.2 hosted.failed hosted.pass.seen (closed.result.0, closed.result.1)
    c.in-Ok.ensures.served closed.ensures.told closed.ensures.disks

pub returns-in-Err : goal.returns-in-Err
returns-in-Err g c = record {
  hosting = c.in-Err.ensures.unserved.1;
  returned = c.close-first.ensures ∙ ap (λ d. disks d.store) c.in-Err.ensures.unserved.0;
}
