-- The books of forecasts and of goals.
use Rattle.std.specs.Prelude.{List, ◌++◌, Result}
use Rattle.hl_time.specs.declared.spans.Span.{Span}
use Rattle.book.specs.declared.item.Book.{Book}
use Rattle.book.specs.declared.item.Placed.{Placed}
use Rattle.book.specs.declared.transaction.Txn.{Txn}
use Rattle.rule_entries.specs.Counted.{excess_of}
use Rattle.rule_entries.specs.Making.{made_of, made_by_day}
use Rattle.generated.specs.Judged.{judged, unless_too_many}
use Rattle.generated.specs.declared.fault.GenFault.{GenFault}

-- the transactions of a book, and behind them those that the periodic rules make within a window
abbrev pub forecast_of : List Placed → List Txn → Span → Result Book GenFault
forecast_of items txns window =
    unless_too_many (excess_of (made_of window items)) (judged (txns ++ made_by_day window items))

-- the transactions that the periodic rules make within a span, alone
abbrev pub goals_of : List Placed → Span → Result Book GenFault
goals_of items span = unless_too_many (excess_of (made_of span items)) (judged (made_by_day span items))
