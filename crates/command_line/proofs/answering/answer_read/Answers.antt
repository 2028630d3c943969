use Rattle.std.proofs.Common.{Err, length, sym, ◌∙◌}
use Rattle.hl_base.specs.Limits.{text_limit}
use Rattle.refusals.specs.Errors.{limit_line}
use Rattle.book_commands.specs.Answers.{WorkRule, told_by}
use Rattle.book_commands.specs.Works.{words_of}
use Rattle.book_commands.proofs.Answering.{quiet_maker, told_kind, told_quiet}
use Rattle.command_line.specs.Sources.{default_year}
use Rattle.command_line.proofs.Limits.{past_found, within_found}
use Rattle.command_line.proofs.Talking.{unasked}
use Rattle.command_line.proofs.answering.answer_read.Goals as goal

pub returns-then-is_past_limit-clause-found : goal.returns-then-is_past_limit-clause-found
returns-then-is_past_limit-clause-found g c =
    let task = c.args.task.now in
    past_found c.args.day.0 (default_year task.origin c.args.day.0) task.work c.args.text.now c.past_bytes.result
    (sym c.is_past_limit.ensures ∙ c.if-is_past_limit.true) c.past_bytes.ensures.line

pub returns-then-is_past_limit-clause-kind : goal.returns-then-is_past_limit-clause-kind
returns-then-is_past_limit-clause-kind g c = told_kind c.past_bytes.result c.past_bytes.ensures.kind

pub returns-then-is_past_limit-clause-maker : goal.returns-then-is_past_limit-clause-maker
returns-then-is_past_limit-clause-maker g c =
    let task = c.args.task.now in
    let day = c.args.day.0 in
    let maker = g.M.Maker in
    let now = c.args.maker.now in
    let t = told_by maker now now in
    quiet_maker day (words_of task.work) (WorkRule day (default_year task.origin day) task.work c.args.text.now t) t (Err c.past_bytes.result)
    (told_quiet c.past_bytes.result 7 (limit_line (length c.args.text.now) text_limit) c.past_bytes.ensures.line)
    (unasked (maker.refusals now) (maker.last_refused now))

pub returns-clause-found : goal.returns-clause-found
returns-clause-found g c =
    let task = c.args.task.now in
    within_found c.args.day.0 (default_year task.origin c.args.day.0) task.work c.args.text.now c.answer_within.result
    (sym c.is_past_limit.ensures ∙ c.if-is_past_limit.false) c.answer_within.ensures.found
