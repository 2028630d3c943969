use Rattle.std.proofs.Common.{ℕ, List, Err, sym, subst}
use Rattle.plan_commands.specs.Telling.{Never}
use Rattle.query.specs.Made.{IsQueryOf, Makes}
use Rattle.report_commands.specs.declared.fault.WordsFault.{WordsFault}
use Rattle.book_commands.specs.Answers.{told_by}
use Rattle.book_commands.specs.Works.{close_made}
use Rattle.book_commands.proofs.Answering.{Tells, quiet_maker, words_found, words_maker}
use Rattle.book_commands.proofs.Closings.{close_tells}
use Rattle.book_commands.proofs.close.close_kept.Goals as goal

pub close_by-requires-clause-query : goal.close_by-requires-clause-query
close_by-requires-clause-query g c =
    subst (λ (words : List (List ℕ)). IsQueryOf c.args.day.0 words c.in-Ok.query) c.as_slice.ensures c.in-Ok.ensures.0

pub returns-in-Ok-clause-maker : goal.returns-in-Ok-clause-maker
returns-in-Ok-clause-maker g c =
    quiet_maker c.args.day.0 c.args.asked.now.words Never (told_by g.M.Maker c.args.maker.now c.make_query.new.maker) c.close_by.result
    c.close_by.ensures.quiet c.in-Ok.ensures.1

pub returns-in-Err-clause-found : goal.returns-in-Err-clause-found
returns-in-Err-clause-found g c =
    let asked = c.args.asked.now in
    let kept = c.args.kept.now in
    let day = c.args.day.0 in
    let t = told_by g.M.Maker c.args.maker.now c.make_query.new.maker in
    let made = close_made asked day kept.items kept.book in
    words_found day asked.words t made c.from.result c.refuse_report.result
    (subst (λ (e : WordsFault). Tells day asked.words t made e) (sym c.from.ensures)
    (close_tells asked day kept.items kept.book t c.in-Err.fault
    (subst (λ (words : List (List ℕ)). Makes day words t.count_before t.count_now t.last_before t.last_now (Err c.in-Err.fault)) c.as_slice.ensures c.in-Err.ensures)))
    c.refuse_report.ensures.cause

pub returns-in-Err-clause-maker : goal.returns-in-Err-clause-maker
returns-in-Err-clause-maker g c =
    let asked = c.args.asked.now in
    let kept = c.args.kept.now in
    let day = c.args.day.0 in
    let t = told_by g.M.Maker c.args.maker.now c.make_query.new.maker in
    let made = close_made asked day kept.items kept.book in
    words_maker day asked.words t made Never c.from.result c.refuse_report.result
    (subst (λ (e : WordsFault). Tells day asked.words t made e) (sym c.from.ensures)
    (close_tells asked day kept.items kept.book t c.in-Err.fault
    (subst (λ (words : List (List ℕ)). Makes day words t.count_before t.count_now t.last_before t.last_now (Err c.in-Err.fault)) c.as_slice.ensures c.in-Err.ensures)))
    c.refuse_report.ensures.cause
