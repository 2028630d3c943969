-- Transactions as entries of a text.
use Rattle.std.specs.Prelude.{Some, None, unwrap_or}
use Rattle.hl_base.specs.Ascii.{dot}
use Rattle.entry_reader.specs.Contexts.{Context, decided_mark}
use Rattle.book.specs.declared.amount.Amount.{Amount}
use Rattle.book.specs.declared.amount.Written.{Written}
use Rattle.journal_printer.specs.Texts.{Shaping}

-- an amount's own side and spacing, without groups, with the decimal mark that is decided for its symbol, else a point
abbrev pub entry_shape : Context → Shaping
entry_shape context a = record a.shape { mark = Some (unwrap_or (decided_mark context a.symbol) dot); group = None }
