use Rattle.std.proofs.Common.{Result, subst}
use Rattle.shared_desk.specs.Stays.{kit_told}
use Rattle.serve_commands.specs.declared.answer.Serving.{Serving as Asked}
use Rattle.serve_line.specs.Runs.{RunsServe}
use Rattle.serve_line.specs.declared.words.NoReading.{NoReading}
use Rattle.serve_rows.proofs.Completing.{completes, counts_none}
use Rattle.serve_rows.proofs.complete.run_soundly.Goals as goal

pub returns-clause-done : goal.returns-clause-done
returns-clause-done g c =
    let tell = kit_told g.H.Door.Door g.H.Clock.Clock g.H.Maker.Maker in
    let link = g.H.Door.Link.Link in
    let run = c.run_program in
    let old = c.args.site.now in
    let runs = subst (λ (r : Result Asked NoReading). RunsServe g.O.Sink g.E.Sink g.S.Shelf g.S.Disk.Disk tell link.coming link.sent g.H.House.told r run.result.0 old run.new.site)
    c.requires.asked (run.ensures.served c.requires.serve) in
    completes g.O.Sink g.E.Sink g.S.Shelf g.S.Disk.Disk tell link.coming link.sent g.H.House.told c.args.asked.now run.result.0 old run.new.site runs
    c.requires.house c.requires.output c.requires.error

pub returns-clause-quiet : goal.returns-clause-quiet
returns-clause-quiet g c =
    let tell = kit_told g.H.Door.Door g.H.Clock.Clock g.H.Maker.Maker in
    let link = g.H.Door.Link.Link in
    let run = c.run_program in
    let old = c.args.site.now in
    let runs = subst (λ (r : Result Asked NoReading). RunsServe g.O.Sink g.E.Sink g.S.Shelf g.S.Disk.Disk tell link.coming link.sent g.H.House.told r run.result.0 old run.new.site)
    c.requires.asked (run.ensures.served c.requires.serve) in
    counts_none g.O.Sink g.E.Sink g.S.Shelf g.S.Disk.Disk tell link.coming link.sent g.H.House.told c.args.asked.now run.result.0 old run.new.site runs
    c.requires.house
