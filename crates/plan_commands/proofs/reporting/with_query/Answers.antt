use Rattle.std.proofs.Common.{ℕ, List, Option, Err, sym, subst}
use Rattle.query.specs.Made.{IsQueryOf, Makes}
use Rattle.plan_commands.specs.Telling.{Answers}
use Rattle.plan_commands.specs.declared.fault.PlanFault.{PlanFault}
use Rattle.plan_commands.proofs.Stages.{no_query}
use Rattle.plan_commands.proofs.Telling.{stays_back}
use Rattle.plan_commands.proofs.reporting.with_query.Goals as goal

pub by_query-requires-clause-query : goal.by_query-requires-clause-query
by_query-requires-clause-query g c =
    subst (λ (words : List (List ℕ)). IsQueryOf c.args.material.now.day.0 words c.in-Ok.query) c.as_slice.ensures c.in-Ok.ensures.0

pub returns-in-Ok : goal.returns-in-Ok
returns-in-Ok g c =
    let material = c.args.material.now in
    let now = g.M.Maker.refusals c.by_query.new.maker in
    let last_now = g.M.Maker.last_refused c.by_query.new.maker in
    stays_back (λ (count : ℕ) (last : Option (List ℕ)). Answers c.args.asked.now material.day.0 c.args.items.now material.book.now count now last last_now c.by_query.result)
    (g.M.Maker.refusals c.args.maker.now) (g.M.Maker.refusals c.make_query.new.maker)
    (g.M.Maker.last_refused c.args.maker.now) (g.M.Maker.last_refused c.make_query.new.maker) c.in-Ok.ensures.1 c.by_query.ensures

pub returns-in-Err : goal.returns-in-Err
returns-in-Err g c =
    let day = c.args.material.now.day.0 in
    let before = g.M.Maker.refusals c.args.maker.now in
    let now = g.M.Maker.refusals c.make_query.new.maker in
    let last_before = g.M.Maker.last_refused c.args.maker.now in
    let last_now = g.M.Maker.last_refused c.make_query.new.maker in
    let items = c.args.items.now in
    let book = c.args.material.now.book.now in
    subst (λ (e : PlanFault). Answers c.args.asked.now day items book before now last_before last_now (Err e)) (sym c.from.ensures)
    (no_query c.args.asked.now day items book before now last_before last_now c.in-Err.fault
    (subst (λ (words : List (List ℕ)). Makes day words before now last_before last_now (Err c.in-Err.fault)) c.as_slice.ensures c.in-Err.ensures))
