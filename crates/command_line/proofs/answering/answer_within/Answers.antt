use Rattle.std.proofs.Common.{ℕ, Option, subst}
use Rattle.book_commands.specs.Answers.{Finds, TellsWork, told_by}
use Rattle.book_commands.specs.Works.{judge}
use Rattle.command_line.proofs.Limits.{within_by}
use Rattle.command_line.proofs.answering.answer_within.Goals as goal

pub answer_text-requires-clause-size : goal.answer_text-requires-clause-size
answer_text-requires-clause-size g c κs within = within_by c.args.task.now.work c.args.text.now c.requires.within

pub returns-clause-found : goal.returns-clause-found
returns-clause-found g c =
    let Found : Option ℕ → Type 0 = λ year. Finds c.answer_text.result (judge c.args.day.0 year c.args.task.now.work c.args.text.now) in
    subst Found c.year_for.ensures c.answer_text.ensures.found

pub returns-clause-maker : goal.returns-clause-maker
returns-clause-maker g c =
    let t = told_by g.M.Maker c.args.maker.now c.answer_text.new.maker in
    let Told : Option ℕ → Type 0 = λ year. TellsWork c.args.day.0 year c.args.task.now.work c.args.text.now t c.answer_text.result in
    subst Told c.year_for.ensures c.answer_text.ensures.maker
