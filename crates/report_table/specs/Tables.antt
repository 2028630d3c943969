-- A table: a title, an empty line, and its lines.
use Rattle.std.specs.Prelude.{ℕ, ◌+◌, ◌-◌, List, [], ◌∷◌, ◌++◌, map, length, take, drop, replicate, codes, Option, Some, None}
use Rattle.std.specs.List.{flat_map, range_with_len, zip}
use Rattle.hl_base.specs.Ascii.{line_feed, space}
use Rattle.book.specs.declared.style.Style.{Style}
use Rattle.report_table.specs.Cells.{Cell, cell_text, width_of, widest}
use Rattle.report_table.specs.declared.lines.TableLine.{TableLine}
use Rattle.report_table.specs.declared.lines.TableLine.TheVariants.{Row, Rule}
use Rattle.report_table.specs.declared.table.Section.{Section}
use Rattle.report_table.specs.declared.table.Table2.{Table2}

-- what the rules between lines are made of
abbrev pub thin : ℕ
thin = 45

abbrev pub thick : ℕ
thick = 61

-- ---- the lines of a table

-- the heads stand without a name
abbrev pub head_line : List (List ℕ) → TableLine
head_line heads = Row [] heads

abbrev pub row_line : (List ℕ → Style) → List ℕ × List Cell → TableLine
row_line style row = Row row.0 (map (cell_text style) row.1)

-- a section's name stands in a line of empty cells, above a rule
abbrev pub name_lines : ℕ → Option (List ℕ) → List TableLine
name_lines columns None = []
name_lines columns (Some name) = Row name (replicate columns []) ∷ Rule thin ∷ []

-- its totals stand without a name, below a rule
abbrev pub total_lines : (List ℕ → Style) → Option (List Cell) → List TableLine
total_lines style None = []
total_lines style (Some cells) = Rule thin ∷ row_line style ([], cells) ∷ []

abbrev pub section_lines : (List ℕ → Style) → ℕ → Section → List TableLine
section_lines style columns s = name_lines columns s.name ++ map (row_line style) s.rows ++ total_lines style s.totals

abbrev pub last_lines : (List ℕ → Style) → Option (List ℕ × List Cell) → List TableLine
last_lines style None = []
last_lines style (Some row) = Rule thick ∷ row_line style row ∷ []

-- a section below a thick rule
abbrev pub block_lines : (List ℕ → Style) → ℕ → Section → List TableLine
block_lines style columns s = Rule thick ∷ section_lines style columns s

-- the heads, and below a thick rule each the sections and the last line
abbrev pub table_lines : (List ℕ → Style) → Table2 → List TableLine
table_lines style t =
    head_line t.heads
    ∷ flat_map (block_lines style (length t.heads)) t.sections
    ++ last_lines style t.last

-- ---- their widths

-- the name of a line, if it has one
abbrev pub names_in : TableLine → List (List ℕ)
names_in (Row name cells) = name ∷ []
names_in (Rule mark) = []

-- its cell in a column, if it has one
abbrev pub cells_at : ℕ → TableLine → List (List ℕ)
cells_at at (Row name cells) = take 1 (drop at cells)
cells_at at (Rule mark) = []

-- the names are as wide as the widest of them
abbrev pub name_width : List TableLine → ℕ
name_width lines = widest 0 (flat_map names_in lines)

-- and a column as the widest of its cells
abbrev pub column_width : List TableLine → ℕ → ℕ
column_width lines at = widest 0 (flat_map (cells_at at) lines)

abbrev pub column_widths : ℕ → List TableLine → List ℕ
column_widths columns lines = map (column_width lines) (range_with_len 0 columns)

-- ---- their texts

abbrev pub spaces : ℕ → List ℕ
spaces n = replicate n space

abbrev pub left_aligned : ℕ → List ℕ → List ℕ
left_aligned width text = text ++ spaces (width - width_of text)

abbrev pub right_aligned : ℕ → List ℕ → List ℕ
right_aligned width text = spaces (width - width_of text) ++ text

-- a cell, right aligned in its column with a space on either side
abbrev pub framed : ℕ → List ℕ → List ℕ
framed width text = (space ∷ []) ++ right_aligned width text ++ (space ∷ [])

-- cells in their columns
abbrev pub aligned : List ℕ → List (List ℕ) → List ℕ
aligned widths cells = flat_map (λ cell. framed cell.0 cell.1) (zip widths cells)

-- the rule below a text of some width, and below the space on either side
abbrev pub ruled : ℕ → ℕ → List ℕ
ruled mark width = replicate (width + 2) mark

abbrev pub line_text : ℕ → List ℕ → TableLine → List ℕ
line_text width widths (Row name cells) =
    (space ∷ []) ++ left_aligned width name ++ codes " ||" ++ aligned widths cells ++ (line_feed ∷ [])
line_text width widths (Rule mark) =
    ruled mark width ++ codes "++" ++ flat_map (ruled mark) widths ++ (line_feed ∷ [])

abbrev pub lines_text : ℕ → List TableLine → List ℕ
lines_text columns lines = flat_map (line_text (name_width lines) (column_widths columns lines)) lines

-- A table as it is written.
abbrev pub table_text : (List ℕ → Style) → Table2 → List ℕ
table_text style t =
    t.title ++ (line_feed ∷ line_feed ∷ []) ++ lines_text (length t.heads) (table_lines style t)
