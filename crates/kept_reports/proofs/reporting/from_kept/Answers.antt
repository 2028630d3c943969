use Rattle.std.proofs.Common.{ℕ, List, Err, sym, subst}
use Rattle.index_cells.specs.Asks.{nodes_shown}
use Rattle.index_cells.proofs.Asking.{asks_none}
use Rattle.query.specs.Made.{IsQueryOf, Makes}
use Rattle.report_commands.specs.Reports.{Answers}
use Rattle.report_commands.specs.declared.fault.WordsFault.{WordsFault}
use Rattle.report_commands.proofs.Answering.{answers_is, refused_is}
use Rattle.kept_reports.specs.Nodes.{bare_columns}
use Rattle.kept_reports.proofs.reporting.from_kept.Goals as goal

pub by_query-requires-clause-query : goal.by_query-requires-clause-query
by_query-requires-clause-query g c =
    subst (λ (words : List (List ℕ)). IsQueryOf c.args.loaded.now.day.0 words c.in-Ok.query) c.as_slice.ensures c.in-Ok.ensures.0

pub returns-in-Ok-clause-answers : goal.returns-in-Ok-clause-answers
returns-in-Ok-clause-answers g c =
    let loaded = c.args.loaded.now in
    let day = loaded.day.0 in
    let query = subst (λ (words : List (List ℕ)). IsQueryOf day words c.in-Ok.query) c.as_slice.ensures c.in-Ok.ensures.0 in
    answers_is c.args.asked.now day loaded.items.now loaded.book.now
    (g.M.Maker.refusals c.args.maker.now) (g.M.Maker.refusals c.make_query.new.maker)
    (g.M.Maker.last_refused c.args.maker.now) (g.M.Maker.last_refused c.make_query.new.maker)
    c.in-Ok.query.terms.items c.by_query.result query.read c.in-Ok.ensures.1 c.by_query.ensures.answer

pub returns-in-Err-clause-answers : goal.returns-in-Err-clause-answers
returns-in-Err-clause-answers g c =
    let loaded = c.args.loaded.now in
    let day = loaded.day.0 in
    let before = g.M.Maker.refusals c.args.maker.now in
    let now = g.M.Maker.refusals c.make_query.new.maker in
    let last_before = g.M.Maker.last_refused c.args.maker.now in
    let last_now = g.M.Maker.last_refused c.make_query.new.maker in
    subst (λ (e : WordsFault). Answers c.args.asked.now day loaded.items.now loaded.book.now before now last_before last_now (Err e)) (sym c.from.ensures)
    (refused_is c.args.asked.now day loaded.items.now loaded.book.now before now last_before last_now c.in-Err.fault
    (subst (λ (words : List (List ℕ)). Makes day words before now last_before last_now (Err c.in-Err.fault)) c.as_slice.ensures c.in-Err.ensures))

pub returns-in-Err-clause-asked : goal.returns-in-Err-clause-asked
returns-in-Err-clause-asked g c =
    let loaded = c.args.loaded.now in
    asks_none (nodes_shown c.args.kept.now (bare_columns c.args.asked.now loaded.day.0 loaded.items.now loaded.book.now)) c.args.steps.now
