-- The heads of a table's columns, and its title.
use Rattle.std.specs.Prelude.{ℕ, ◌+◌, ◌-◌, min, max, List, [], ◌∷◌, ◌++◌, map, length, codes, if◌then◌else◌}
use Rattle.hl_time.specs.Calendar.{day_end, last_day}
use Rattle.hl_time.specs.Shown.{column_text, day_text}
use Rattle.hl_time.specs.Split.{part_at}
use Rattle.hl_time.specs.declared.spans.Span.{Span}
use Rattle.balance_rows.specs.declared.layout.Basis.{Basis}
use Rattle.balance_rows.specs.declared.layout.Basis.TheVariants.{Changes, Cumulative, Historical}
use Rattle.balance_rows.specs.declared.layout.Layout.{Layout}

-- the days of a span that the calendar has
abbrev pub in_calendar : Span → Span
in_calendar span = record { from = max span.from 1; end = min span.end day_end }

-- its first and its last day; in one without days the first stands for the last too, and 9999-12-31 for a first day past
-- it
abbrev pub first_of : Span → ℕ
first_of span = min (max span.from 1) last_day

abbrev pub last_of : Span → ℕ
last_of span = max (min span.end day_end) (first_of span + 1) - 1

-- the head of a column: its name, or for ending balances its last day
abbrev pub head_text : Basis → Span → List ℕ
head_text Changes column = column_text (in_calendar column)
head_text Cumulative column = day_text (last_of column)
head_text Historical column = day_text (last_of column)

-- the heads of the columns, of their total and of their average, where these are asked for
abbrev pub heads_of : Layout → List Span → List (List ℕ)
heads_of layout columns =
    map (head_text layout.basis) columns
    ++ (if layout.row_total then codes "Total" ∷ [] else [])
    ++ (if layout.average then codes "Average" ∷ [] else [])

-- what a table shows
abbrev pub kind_text : Basis → List ℕ
kind_text Changes = codes "Balance changes in "
kind_text Cumulative = codes "Ending balances (cumulative) in "
kind_text Historical = codes "Ending balances (historical) in "

-- the days from the first of the first column to the last of the last column
abbrev pub span_text : List Span → List ℕ
span_text columns =
    day_text (first_of (part_at columns 0)) ++ codes ".." ++ day_text (last_of (part_at columns (length columns - 1)))

abbrev pub title_of : Basis → List Span → List ℕ
title_of basis columns = kind_text basis ++ span_text columns ++ codes ":"
