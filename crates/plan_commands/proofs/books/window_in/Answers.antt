use Rattle.std.proofs.Common.{◌∙◌, ap}
use Rattle.hl_time.specs.declared.spans.Period.{Period}
use Rattle.generated.specs.Windows.{window_of}
use Rattle.plan_commands.proofs.books.window_in.Goals as goal

pub given_bounds-requires-clause-options : goal.given_bounds-requires-clause-options
given_bounds-requires-clause-options c = c.requires.plan.valid.bounds

pub given_bounds-requires-clause-query : goal.given_bounds-requires-clause-query
given_bounds-requires-clause-query c = c.requires.plan.query.days

pub forecast_window-requires-clause-today : goal.forecast_window-requires-clause-today
forecast_window-requires-clause-today c = c.requires.plan.day

pub returns-clause-window : goal.returns-clause-window
returns-clause-window c =
    c.forecast_window.ensures.window
    ∙ ap (λ (given : Period). window_of c.args.asked given c.args.book.now.txns c.args.plan.now.day.0) c.given_bounds.ensures.given
