use Rattle.std.proofs.Common.{refl}
use Rattle.shared_desk.specs.Stays.{kit_told}
use Rattle.serve_line.specs.Words.{serve_read}
use Rattle.serve_commands.specs.Answering.{post_of}
use Rattle.serve_line.proofs.ServeEnds.{answered_all, asked_answer, unasked}
use Rattle.serve_line.proofs.program.answer_serve.Goals as goal

pub returns-in-Ok : goal.returns-in-Ok
returns-in-Ok g c =
    let tell = kit_told g.H.Door.Door g.H.Clock.Clock g.H.Maker.Maker in
    let link = g.H.Door.Link.Link in
    let old = c.args.site.now in
    let new = record old { outside = record (old.outside) { shelf = c.serve.new.shelf }; house = c.serve.new.house } in
    asked_answer g.S.Shelf g.S.Disk.Disk tell link.coming link.sent g.H.House.told old (serve_read old.page c.args.words.now) c.in-Ok.asked new
    c.serve.result c.in-Ok.ensures (record {
      serves = c.serve.ensures;
      answers = answered_all g.S.Shelf g.S.Disk.Disk tell link.coming link.sent c.in-Ok.asked.page c.in-Ok.asked.store (post_of c.in-Ok.asked) old.outside.shelf
          new.outside.shelf (g.H.House.told old.house) (g.H.House.told new.house) c.histories_are_answered.ensures c.serve.ensures.served
          c.serve.ensures.serves;
      rest = refl;
    })

pub returns-in-Err : goal.returns-in-Err
returns-in-Err g c =
    let tell = kit_told g.H.Door.Door g.H.Clock.Clock g.H.Maker.Maker in
    let link = g.H.Door.Link.Link in
    unasked g.S.Shelf g.S.Disk.Disk tell link.coming link.sent g.H.House.told c.args.site.now (serve_read c.args.site.now.page c.args.words.now) c.in-Err.no_reading
    c.refuse_words.result c.in-Err.ensures c.refuse_words.ensures.usage c.refuse_words.ensures.memory
