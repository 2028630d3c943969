use Rattle.shared_desk.specs.Stays.{kit_told}
use Rattle.serve_commands.proofs.AnswerLaws.{complete_so}
use Rattle.serve_commands.proofs.answer.serve.Goals as goal

pub returns : goal.returns
returns g c =
    let tell = kit_told g.H.Door.Door g.H.Clock.Clock g.H.Maker.Maker in
    let link = g.H.Door.Link.Link in
    let s = c.serve_store-served in
    record {
      served = s.result;
      serves = s.ensures;
      says = c.say.ensures.said;
      short = c.say.ensures.short;
      complete = λ none.
          complete_so g.S.Shelf g.S.Disk.Disk tell link.coming link.sent c.args.serving c.args.shelf.now s.new.shelf
          (g.H.House.told c.args.house.now) (g.H.House.told s.new.house) none s.result c.say.result s.ensures c.say.ensures.said;
    }
