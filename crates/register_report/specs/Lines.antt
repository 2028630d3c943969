-- The lines of a register.
use Rattle.std.specs.Prelude.{ℕ, ℤ, ◌-◌, ◌==◌, min, max, Bool, false, ◌&&◌, List, [], ◌∷◌, ◌++◌, length, take, drop, Option, Some, None, codes, if◌then◌else◌}
use Rattle.std.specs.List.{flat_map, zip}
use Rattle.hl_base.specs.Ascii.{line_feed, space}
use Rattle.hl_time.specs.Shown.{calendar_text}
use Rattle.book.specs.Mixed.{is_zero}
use Rattle.book.specs.Printed.{printed_amount, printed_units_of}
use Rattle.book.specs.declared.style.Style.{Style}
use Rattle.report_table.specs.Tables.{right_aligned, spaces}
use Rattle.report_cells.specs.Report.{Sums}
use Rattle.report_cells.specs.Taken.{Shared, Taken, mixed_in}
use Rattle.register_report.specs.Fields.{field}
use Rattle.register_report.specs.Heads.{Headed}

-- a posting of a register: what it shows of its transaction, and what it brings to the report
abbrev pub Shown : Type 0
Shown = Headed × Taken

-- the line of its transaction, and its day
abbrev pub stamp : Shown → ℕ × ℕ
stamp e = (e.0.line, e.1.day)

-- it is of the same transaction and the same day as the line before
abbrev pub continues : Option (ℕ × ℕ) → Shown → Bool
continues None e = false
continues (Some last) e = (last.0 == e.0.line) && (last.1 == e.1.day)

-- ---- what stands before the sums

abbrev pub day_and_description : ℕ → List ℕ → List ℕ
day_and_description day description = calendar_text day ++ (space ∷ []) ++ field 20 description

-- both, or as much space
abbrev pub head_text : Bool → Shown → List ℕ
head_text same e = if same then spaces 31 else day_and_description e.1.day e.0.description

-- an account in its field, between spaces
abbrev pub account_text : List ℕ → List ℕ
account_text account = codes "  " ++ field 21 account ++ codes "  "

-- an amount in its symbol's style, `0` for none and for zero
abbrev pub amount_text : (List ℕ → Style) → Option Shared → List ℕ
amount_text style None = codes "0"
amount_text style (Some share) =
    if is_zero share.1 then codes "0" else printed_amount share.0 share.1 (style share.0)

-- amounts and sums stand in columns of one width
abbrev pub in_column : List ℕ → List ℕ
in_column text = right_aligned 11 text

abbrev pub posting_text : (List ℕ → Style) → Bool → Shown → List ℕ
posting_text style same e =
    head_text same e ++ account_text e.1.account ++ in_column (amount_text style e.1.amount) ++ codes "  "

-- ---- the sums

-- a sum in its symbol's style
abbrev pub sum_text : (List ℕ → Style) → List ℕ × ℤ → List ℕ
sum_text style sum = printed_units_of sum.0 sum.1 (style sum.0)

-- a sum that ends its line
abbrev pub column_line : List ℕ → List ℕ
column_line text = in_column text ++ (line_feed ∷ [])

-- a further sum stands in a line of its own
abbrev pub further_line : (List ℕ → Style) → List ℕ × ℤ → List ℕ
further_line style sum = spaces 69 ++ column_line (sum_text style sum)

-- sums below one another, `0` for none
abbrev pub sums_lines : (List ℕ → Style) → Sums → List ℕ
sums_lines style [] = column_line (codes "0")
sums_lines style (sum ∷ sums) = column_line (sum_text style sum) ++ flat_map (further_line style) sums

-- ---- all lines

-- the lines of postings behind what was counted before, and behind the line of a last one: each has the sums of all that
-- is counted with it
abbrev pub lines_after : (List ℕ → Style) → List Taken → Option (ℕ × ℕ) → List Shown → List ℕ
lines_after style counted last [] = []
lines_after style counted last (e ∷ es) =
    posting_text style (continues last e) e
    ++ sums_lines style (mixed_in (counted ++ e.1 ∷ []))
    ++ lines_after style (counted ++ e.1 ∷ []) (Some (stamp e)) es

-- A register: the lines of the last takings, of which each has a head, behind those that are counted before.
abbrev pub register_text : (List ℕ → Style) → List Taken → List Headed → List ℕ
register_text style takings heads =
    let opening = length takings - length heads in
    lines_after style (take opening takings) None (zip heads (drop opening takings))
