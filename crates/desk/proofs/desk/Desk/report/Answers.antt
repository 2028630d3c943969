use Rattle.desk.proofs.Refused.{replies, tells, tells_rule}
use Rattle.desk.proofs.desk.Desk.report.Goals as goal

pub returns-clause-maker : goal.returns-clause-maker
returns-clause-maker g c = λ q.
    let live = c.args.self.now.live in
    let maker = g.M.Maker in
    rw (c.report_reply.ensures, c.revision.ensures) (tells live.revision c.args.day.0 live.year live.text c.args.words.now (maker.refusals c.args.maker.now) (maker.refusals c.report_text-made.new.maker)
    (maker.last_refused c.args.maker.now) (maker.last_refused c.report_text-made.new.maker) q c.report_text-made.result c.report_text-made.ensures.value)

pub returns-clause-reply : goal.returns-clause-reply
returns-clause-reply g c =
    let live = c.args.self.now.live in
    let maker = g.M.Maker in
    rw (c.report_reply.ensures, c.revision.ensures) (replies live.revision c.args.day.0 live.year live.text c.args.words.now (maker.refusals c.args.maker.now) (maker.refusals c.report_text-made.new.maker)
    (maker.last_refused c.args.maker.now) (maker.last_refused c.report_text-made.new.maker) c.report_text-made.result c.args.self.now.no_year c.report_text-made.ensures.value)

pub returns-clause-rule : goal.returns-clause-rule
returns-clause-rule g c =
    let live = c.args.self.now.live in
    let maker = g.M.Maker in
    rw (c.report_reply.ensures, c.revision.ensures) (tells_rule live.revision c.args.day.0 live.year live.text c.args.words.now (maker.refusals c.args.maker.now) (maker.refusals c.report_text-made.new.maker)
    (maker.last_refused c.args.maker.now) (maker.last_refused c.report_text-made.new.maker) c.report_text-made.result c.args.self.now.no_year c.report_text-made.ensures.value)
