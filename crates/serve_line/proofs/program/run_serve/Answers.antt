use Rattle.std.proofs.Common.{ap}
use Rattle.shared_desk.specs.Stays.{kit_told}
use Rattle.serve_line.specs.Runs.{sinks_of}
use Rattle.serve_line.specs.Words.{serve_read}
use Rattle.serve_line.proofs.ServeEnds.{completes, completes_surely, counts}
use Rattle.serve_line.proofs.Statuses.{status_so}
use Rattle.serve_line.proofs.program.run_serve.Goals as goal

pub returns : goal.returns
returns g c =
    let tell = kit_told g.H.Door.Door g.H.Clock.Clock g.H.Maker.Maker in
    let link = g.H.Door.Link.Link in
    let a = c.answer_serve-answer in
    let last = a.new.site in
    let status = status_so c.end_serve.result.0 (sinks_of g.O.Sink g.E.Sink last.outside) (sinks_of g.O.Sink g.E.Sink c.end_serve.new.outside)
    g.S.Shelf g.S.Disk.Disk tell link.coming link.sent g.H.House.told c.args.site.now last (serve_read c.args.site.now.page c.args.words.now)
    a.result a.ensures c.end_serve.ensures.ends in
    record {
      last = last;
      answer = a.result;
      answers = a.ensures;
      ends = c.end_serve.ensures.ends;
      stays = ap (λ outside. record last { outside = outside }) c.end_serve.ensures.stays;
      soundly = c.end_serve.ensures.soundly;
      statuses = status.0;
      readable = status.1;
      complete = completes g.S.Shelf g.S.Disk.Disk tell link.coming link.sent g.H.House.told c.args.site.now last (serve_read c.args.site.now.page c.args.words.now)
          c.end_serve.result.0 (sinks_of g.O.Sink g.E.Sink last.outside) (sinks_of g.O.Sink g.E.Sink c.end_serve.new.outside)
          a.result a.ensures c.end_serve.ensures.ends;
      quiet = counts g.S.Shelf g.S.Disk.Disk tell link.coming link.sent g.H.House.told c.args.site.now last (serve_read c.args.site.now.page c.args.words.now)
          a.result a.ensures;
      sure = completes_surely g.S.Shelf g.S.Disk.Disk tell link.coming link.sent g.H.House.told c.args.site.now last g.O.Sink g.E.Sink
          last.outside.streams.output last.outside.err (serve_read c.args.site.now.page c.args.words.now) c.end_serve.result.0 a.result a.ensures
          c.end_serve.ensures.soundly;
    }
