use Rattle.index_cells.specs.Asks.{nodes_shown}
use Rattle.index_cells.proofs.Asking.{asks_none}
use Rattle.kept_reports.specs.Nodes.{bare_columns}
use Rattle.kept_reports.proofs.Bare.{no_terms}
use Rattle.kept_reports.proofs.Serving.{served, words_none}
use Rattle.kept_reports.proofs.reporting.by_query.Goals as goal

pub over_scope-requires-clause-words : goal.over_scope-requires-clause-words
over_scope-requires-clause-words g c = words_none c.args.asked.now c.requires.served

pub over_scope-requires-clause-bare : goal.over_scope-requires-clause-bare
over_scope-requires-clause-bare g c =
    no_terms c.args.loaded.now.day.0 c.args.asked.now.words c.args.query.now (words_none c.args.asked.now c.requires.served) c.requires.query

pub over_scope-requires-clause-served : goal.over_scope-requires-clause-served
over_scope-requires-clause-served g c = served c.args.asked.now c.requires.served

pub returns-clause-answer : goal.returns-clause-answer
returns-clause-answer g c = c.over_scope.ensures.answer c.args.loaded.now.items.now c.requires.styles

pub returns-clause-asked : goal.returns-clause-asked
returns-clause-asked g c = c.over_scope.ensures.asked c.args.loaded.now.items.now

pub returns-in_err-types-clause-asked : goal.returns-in_err-types-clause-asked
returns-in_err-types-clause-asked g c =
    let loaded = c.args.loaded.now in
    asks_none (nodes_shown c.args.kept.now (bare_columns c.args.asked.now loaded.day.0 loaded.items.now loaded.book.now)) c.args.steps.now
