use Rattle.std.proofs.Common.{subst}
use Rattle.std.specs.Prelude.{IfSome}
use Rattle.index_cells.specs.Books.{KeepsBook}
use Rattle.kept_reports.specs.Nodes.{bare_columns, nodes_in}
use Rattle.kept_reports.specs.Served.{is_from_kept}
use Rattle.kept_reports.proofs.Noding.{asked_of, none_asked}
use Rattle.kept_reports.proofs.reporting.report.Goals as goal

pub with_kept-requires-clause-keeps : goal.with_kept-requires-clause-keeps
with_kept-requires-clause-keeps g c =
    subst (λ o. IfSome o (λ kept. KeepsBook c.args.loaded.now.book.now.txns kept.now)) c.in-Some.is c.requires.keeps

pub returns-in-Some-clause-asked : goal.returns-in-Some-clause-asked
returns-in-Some-clause-asked g c =
    let loaded = c.args.loaded.now in
    let keeps = subst (λ o. IfSome o (λ kept. KeepsBook loaded.book.now.txns kept.now)) c.in-Some.is c.requires.keeps in
    asked_of (is_from_kept c.args.asked.now) loaded.book.now c.in-Some.kept.now (bare_columns c.args.asked.now loaded.day.0 loaded.items.now loaded.book.now) c.args.steps.now c.with_kept.new.steps keeps c.with_kept.ensures.asked

pub returns-in-None-clause-asked : goal.returns-in-None-clause-asked
returns-in-None-clause-asked g c =
    let loaded = c.args.loaded.now in
    none_asked (is_from_kept c.args.asked.now) (nodes_in loaded.book.now (bare_columns c.args.asked.now loaded.day.0 loaded.items.now loaded.book.now)) c.args.steps.now
