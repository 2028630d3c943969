-- A whole journal as it is printed.
use Rattle.std.specs.Prelude.{ℕ, Bool, List, [], ◌∷◌, ◌++◌, filter, Option, Some, None}
use Rattle.std.specs.List.{flat_map, slice_get}
use Rattle.hl_base.specs.Ascii.{line_feed}
use Rattle.book.specs.declared.amount.Amount.{Amount}
use Rattle.book.specs.declared.amount.Written.{Written}
use Rattle.book.specs.declared.style.Styles.{Styles}
use Rattle.book.specs.declared.transaction.Txn.{Txn}
use Rattle.book.specs.Styles.{style_in}
use Rattle.journal_printer.specs.declared.detail.Detail.{Detail}
use Rattle.journal_printer.specs.Layout.{txn_text}
use Rattle.journal_printer.specs.Order.{names_in_order, is_chosen}
use Rattle.journal_printer.specs.Texts.{Shaping}

-- each amount in the shape of its symbol's style
abbrev pub styled : Styles → Shaping
styled styles a = (style_in styles a.symbol).shape

-- the lines of a transaction and an empty line
abbrev pub spaced_text : Shaping → Detail → Option Txn → List ℕ
spaced_text shape detail None = []
spaced_text shape detail (Some t) = txn_text shape detail t ++ (line_feed ∷ [])

-- Some transactions by day and then by number, with an empty line after each.
abbrev pub journal_text : Shaping → Detail → List Txn → List ℕ
journal_text shape detail txns = flat_map (λ name. spaced_text shape detail (slice_get txns name.1)) (names_in_order txns)

-- The chosen ones alone: with an item for each, whether it is chosen.
abbrev pub chosen_text : Shaping → Detail → List Txn → List Bool → List ℕ
chosen_text shape detail txns chosen =
    flat_map (λ name. spaced_text shape detail (slice_get txns name.1)) (filter (is_chosen chosen) (names_in_order txns))
