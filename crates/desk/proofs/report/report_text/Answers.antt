use Rattle.std.proofs.Common.{Err, sym, subst}
use Rattle.live_journal.specs.Loading.{book_of}
use Rattle.plan_commands.specs.declared.fault.PlanFault.{PlanFault}
use Rattle.desk.specs.Reports.{Reports}
use Rattle.desk.proofs.AskingLaws.{asks_idle, asks_read, sums_keep}
use Rattle.desk.proofs.Reported.{reports, unread}
use Rattle.desk.proofs.report.report_text.Goals as goal

pub returns-in-Err-clause-value : goal.returns-in-Err-clause-value
returns-in-Err-clause-value g c =
    let live = c.args.live.now in
    let maker = g.M.Maker in
    let count = maker.refusals c.args.maker.now in
    let last = maker.last_refused c.args.maker.now in
    subst (λ (e : PlanFault). Reports c.args.day.0 live.year live.text c.args.words.now count count last last (Err e)) (sym c.from.ensures)
    (unread c.args.day.0 live.year live.text c.args.words.now count last c.in-Err.fault c.in-Err.ensures.answer)

pub returns-clause-value : goal.returns-clause-value
returns-clause-value g c =
    let live = c.args.live.now in
    let maker = g.M.Maker in
    reports c.in-Ok.asked c.args.day.0 live.year live.text c.args.words.now c.items.result.now c.book.result.now c.in-Ok.ensures.answer c.items.ensures c.book.ensures.book
    (maker.refusals c.args.maker.now) (maker.refusals c.report.new.maker) (maker.last_refused c.args.maker.now) (maker.last_refused c.report.new.maker) c.report.result c.report.ensures.answers

pub report-requires-clause-keeps : goal.report-requires-clause-keeps
report-requires-clause-keeps g c =
    let live = c.args.live.now in
    sums_keep c.sums.result (book_of live.year live.text) c.book.result.now c.book.ensures.book c.sums.ensures

pub returns-in-Err-clause-steps : goal.returns-in-Err-clause-steps
returns-in-Err-clause-steps g c =
    let live = c.args.live.now in
    asks_idle c.args.day.0 live.year live.text c.args.words.now c.args.steps.now

pub returns-clause-steps : goal.returns-clause-steps
returns-clause-steps g c =
    let live = c.args.live.now in
    asks_read c.args.day.0 live.year live.text c.args.words.now c.in-Ok.asked c.items.result.now c.book.result.now c.args.steps.now c.report.new.steps
    c.in-Ok.ensures.answer c.items.ensures c.book.ensures.book c.report.ensures.asked
