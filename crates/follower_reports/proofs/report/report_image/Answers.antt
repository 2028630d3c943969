use Rattle.follower_reports.proofs.Shown.{shows_made, shows_none}
use Rattle.follower_reports.proofs.report.report_image.Goals as goal

pub returns-in-Ok : goal.returns-in-Ok
returns-in-Ok g c =
    let maker = g.M.Maker in
    shows_made c.args.day.0 c.args.text.now c.args.words.now (maker.refusals c.args.maker.now) (maker.refusals c.report_text.new.maker)
    (maker.last_refused c.args.maker.now) (maker.last_refused c.report_text.new.maker) c.in-Ok.live c.in-Ok.ensures
    c.report_text.result c.report_text.ensures.value c.told.result c.told.ensures

pub returns-in-Err : goal.returns-in-Err
returns-in-Err g c =
    let maker = g.M.Maker in
    shows_none c.args.day.0 c.args.text.now c.args.words.now (maker.refusals c.args.maker.now) (maker.last_refused c.args.maker.now) c.in-Err.fault c.in-Err.ensures
