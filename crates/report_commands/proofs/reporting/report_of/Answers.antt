use Rattle.std.proofs.Common.{◌≡◌, ℕ, List, Err, sym, subst}
use Rattle.query.specs.Made.{IsQueryOf, Makes}
use Rattle.report_commands.specs.Reports.{Answers}
use Rattle.report_commands.specs.declared.fault.WordsFault.{WordsFault}
use Rattle.report_commands.proofs.Answering.{answers_is, refused_is}
use Rattle.report_commands.proofs.reporting.report_of.Goals as goal

pub answer-requires-clause-query : goal.answer-requires-clause-query
answer-requires-clause-query g c =
    subst (λ (words : List (List ℕ)). IsQueryOf c.args.material.now.day.0 words c.in-Ok.query) c.as_slice.ensures c.in-Ok.ensures.0

pub returns-in-Ok : goal.returns-in-Ok
returns-in-Ok g c = λ items is.
    let day = c.args.material.now.day.0 in
    let query = subst (λ (words : List (List ℕ)). IsQueryOf day words c.in-Ok.query) c.as_slice.ensures c.in-Ok.ensures.0 in
    answers_is c.args.asked.now day items c.args.material.now.book.now
    (g.M.Maker.refusals c.args.maker.now) (g.M.Maker.refusals c.make_query.new.maker)
    (g.M.Maker.last_refused c.args.maker.now) (g.M.Maker.last_refused c.make_query.new.maker)
    c.in-Ok.query.terms.items c.answer.result query.read c.in-Ok.ensures.1 (c.answer.ensures items is)

pub returns-in-Err : goal.returns-in-Err
returns-in-Err g c = λ items is.
    let day = c.args.material.now.day.0 in
    let before = g.M.Maker.refusals c.args.maker.now in
    let now = g.M.Maker.refusals c.make_query.new.maker in
    let last_before = g.M.Maker.last_refused c.args.maker.now in
    let last_now = g.M.Maker.last_refused c.make_query.new.maker in
    let book = c.args.material.now.book.now in
    subst (λ (e : WordsFault). Answers c.args.asked.now day items book before now last_before last_now (Err e)) (sym c.from.ensures)
    (refused_is c.args.asked.now day items book before now last_before last_now c.in-Err.fault
    (subst (λ (words : List (List ℕ)). Makes day words before now last_before last_now (Err c.in-Err.fault)) c.as_slice.ensures c.in-Err.ensures))
