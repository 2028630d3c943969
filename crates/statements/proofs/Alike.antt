-- A statement shows values, whatever number of decimals they are kept with.
use Rattle.std.proofs.Common.{◌≡◌, ℕ, ℤ, pos, ◌-◌, ◌^◌, ◌*ℤ◌, Bool, true, false, cond, List, [], ◌∷◌, ◌++◌, map, length, codes, Option, Some, None, append_assoc, refl, sym, ap, ◌∙◌, arith}
use Rattle.std.specs.List.{flat_map, fold}
use Rattle.std.proofs.lemmas.Int.{ints}
use Rattle.std.proofs.lemmas.List.Sums.{fold-append}
use Rattle.hl_num.specs.Decimal.{Decimal, units_of}
use Rattle.hl_time.specs.declared.spans.Span.{Span}
use Rattle.book.specs.Printed.{printed_units_of}
use Rattle.book.specs.declared.style.Style.{Style}
use Rattle.report_cells.specs.Report.{Sums, seen}
use Rattle.report_table.specs.Cells.{Cell, amount_text, cell_text, next_amount}
use Rattle.report_table.specs.Tables.{block_lines, head_line, last_lines, lines_text, name_lines, row_line, table_text, total_lines}
use Rattle.report_table.specs.declared.lines.TableLine.{TableLine}
use Rattle.report_table.specs.declared.lines.TableLine.TheVariants as line
use Rattle.report_table.specs.declared.table.Section.{Section}
use Rattle.report_table.specs.declared.table.Table2.{Table2}
use Rattle.balance_rows.specs.declared.layout.Layout.{Layout}
use Rattle.balance_rows.specs.Layouts.{laid_rows}
use Rattle.balance_rows.specs.Rows.{Row}
use Rattle.balance_layouts.specs.Averages.{least, least_with, lesser}
use Rattle.balance_layouts.specs.TableRows.{named_seen, seen_totals}
use Rattle.balance_layouts.specs.Tables.{exact, exact_cell, exact_row}
use Rattle.balance_layouts.specs.Titles.{heads_of, span_text}
use Rattle.balance_layouts.specs.Totals.{rows_out, table_row, totals_out, with_total}
use Rattle.statements.specs.declared.statement.Part.{Part}
use Rattle.statements.specs.declared.statement.Statement.{Statement}
use Rattle.statements.specs.declared.writing.Body.{Body}
use Rattle.statements.specs.Chosen.{net, part_totals}
use Rattle.statements.specs.Described.{first_of, name_of, second_of, title_of}
use Rattle.statements.specs.Exactly.{exact_last, exact_totals, exactly, net_named}
use Rattle.statements.specs.Written.{IsBody, net_line, net_of, part_out, part_section, parts_out, sections_of, table_of}

by_one : (z : ℤ) → z *ℤ pos (10 ^ (36 - 36)) ≡ z
by_one z = omega (arith, ints)

map-twice : {A B C : Type 0} (g : B → C) (f : A → B) (xs : List A) → map g (map f xs) ≡ map (λ x. g (f x)) xs
map-twice g f [] = refl
map-twice g f (x ∷ xs) = λ i. g (f x) ∷ map-twice g f xs i

module _ (style : List ℕ → Style) where
  same_amount : (sum : List ℕ × Decimal) → amount_text style sum ≡ amount_text style (exact (sum.0, units_of sum.1))
  same_amount sum = ap (λ (z : ℤ). printed_units_of sum.0 z (style sum.0)) (sym (by_one (units_of sum.1)))

  same_amounts : (sums : Cell) → flat_map (next_amount style) sums ≡ flat_map (next_amount style) (exact_cell (seen sums))
  same_amounts [] = refl
  same_amounts (sum ∷ sums) = λ i. (codes ", " ++ same_amount sum i) ++ same_amounts sums i

  same_cell : (cell : Cell) → cell_text style cell ≡ cell_text style (exact_cell (seen cell))
  same_cell [] = refl
  same_cell (sum ∷ sums) = λ i. same_amount sum i ++ same_amounts sums i

  same_cells : (cells : List Cell) → map (cell_text style) cells ≡ map (cell_text style) (map exact_cell (map seen cells))
  same_cells [] = refl
  same_cells (cell ∷ cells) = λ i. same_cell cell i ∷ same_cells cells i

  same_row : (row : List ℕ × List Cell) → row_line style row ≡ row_line style (exact_row (named_seen row))
  same_row row = λ i. line.Row row.0 (same_cells row.1 i)

  same_rows : (rows : List (List ℕ × List Cell)) → map (row_line style) rows ≡ map (row_line style) (map exact_row (map named_seen rows))
  same_rows [] = refl
  same_rows (row ∷ rows) = λ i. same_row row i ∷ same_rows rows i

  same_totals : (totals : Option (List Cell)) → total_lines style totals ≡ total_lines style (exact_totals (seen_totals totals))
  same_totals None = refl
  same_totals (Some cells) = λ i. line.Rule 45 ∷ line.Row [] (same_cells cells i) ∷ []

  same_last : (last : Option (List ℕ × List Cell)) → last_lines style last ≡ last_lines style (exact_last last)
  same_last None = refl
  same_last (Some row) = λ i. line.Rule 61 ∷ same_row row i ∷ []

  same_section : (columns : ℕ) (section : Section) → block_lines style columns section ≡ block_lines style columns (exactly section)
  same_section columns section = λ i. line.Rule 61 ∷ (name_lines columns section.name ++ same_rows section.rows i ++ same_totals section.totals i)

  same_sections : (columns : ℕ) (sections : List Section) → flat_map (block_lines style columns) sections ≡ flat_map (block_lines style columns) (map exactly sections)
  same_sections columns [] = refl
  same_sections columns (section ∷ sections) = λ i. same_section columns section i ++ same_sections columns sections i

  -- a table says what its cells come to
  told : (title : List ℕ) (heads : List (List ℕ)) (sections : List Section) (last : Option (List ℕ × List Cell))
      → table_text style (record { title = title; heads = heads; sections = sections; last = last })
      ≡ table_text style (record { title = title; heads = heads; sections = map exactly sections; last = exact_last last })
  told title heads sections last =
      ap (λ (lines : List TableLine). title ++ (10 ∷ 10 ∷ []) ++ lines_text (length heads) lines)
      (λ i. (head_line heads ∷ same_sections (length heads) sections i) ++ same_last last i)

  -- A statement that says what the definition's does is written alike.
  pub statement_is : (statement : Statement) (layout : Layout) (columns : List Span) (first second : List Row)
      (title : List ℕ) (heads : List (List ℕ)) (body : Body)
      → title ≡ title_of statement ++ span_text columns → heads ≡ heads_of layout columns
      → IsBody statement layout (length columns) style first second body
      → table_text style (record { title = title; heads = heads; sections = body.sections; last = body.last })
      ≡ table_text style (table_of statement layout style columns first second)
  statement_is statement layout columns first second title heads body titled headed made =
      told title heads body.sections body.last
      ∙ (λ i. table_text style (record { title = titled i; heads = headed i; sections = made.sections i; last = made.last i }))

-- ---- a section and a last line that are made

exact-if : (b : Bool) (cells : List Sums) → exact_totals (cond b None (Some cells)) ≡ cond b None (Some (map exact_cell cells))
exact-if true cells = refl
exact-if false cells = refl

module _ (layout : Layout) (columns : ℕ) (style : List ℕ → Style) where
  pub section_is : (part : Part) (rows : List Row) (totals : List Sums) (name : List ℕ) (laid : List Row) (made : List (List ℕ × List Cell)) (shown : Option (List Cell))
      → name ≡ name_of part → laid ≡ laid_rows layout columns rows
      → map named_seen made ≡ map (table_row layout columns style) laid
      → seen_totals shown ≡ cond layout.no_total None (Some (with_total layout columns style totals))
      → exactly (record { name = Some name; rows = made; totals = shown }) ≡ part_section layout columns style part rows totals
  section_is part rows totals name laid made shown named is rowed totalled =
      let made_rows : map exact_row (map named_seen made) ≡ map (λ (row : Row). exact_row (table_row layout columns style row)) (laid_rows layout columns rows) =
      ap (map exact_row) (rowed ∙ ap (map (table_row layout columns style)) is)
      ∙ map-twice exact_row (table_row layout columns style) (laid_rows layout columns rows) in
      let made_totals = ap exact_totals totalled ∙ exact-if layout.no_total (with_total layout columns style totals) in
      λ i. record { name = Some (named i); rows = made_rows i; totals = made_totals i }

  pub net_is : (sums made : List Sums) (shown : Option (List Cell)) (line : Option (List ℕ × List Cell))
      → made ≡ sums
      → seen_totals shown ≡ cond layout.no_total None (Some (with_total layout columns style made))
      → line ≡ net_named shown
      → exact_last line ≡ net_line layout columns style sums
  net_is sums made shown line same totalled is =
      ap exact_last is ∙ named_is shown ∙ ap named_totals totalled ∙ named-if layout.no_total (with_total layout columns style made)
      ∙ ap (net_line layout columns style) same
    where
      named_totals : Option (List Sums) → Option (List ℕ × List Cell)
      named_totals None = None
      named_totals (Some cells) = Some (codes "Net:", map exact_cell cells)

      named_is : (shown : Option (List Cell)) → exact_last (net_named shown) ≡ named_totals (seen_totals shown)
      named_is None = refl
      named_is (Some cells) = refl

      named-if : (b : Bool) (cells : List Sums) → named_totals (cond b None (Some cells)) ≡ cond b None (Some (codes "Net:", map exact_cell cells))
      named-if true cells = refl
      named-if false cells = refl

  pub net_least : (before new : Option (List ℕ)) (sums made : List Sums) → made ≡ sums
      → new ≡ least_with before (totals_out layout columns style made) → new ≡ least_with before (totals_out layout columns style sums)
  net_least before new sums made same is = is ∙ ap (λ (t : List Sums). least_with before (totals_out layout columns style t)) same

  -- ---- the least symbol in which an average can't be told

  pub part_least : (before : Option (List ℕ)) (rows : List Row) (totals : List Sums) (laid : List Row) → laid ≡ laid_rows layout columns rows
      → least_with (least_with before (rows_out layout columns style laid)) (totals_out layout columns style totals)
      ≡ least_with before (part_out layout columns style rows totals)
  part_least before rows totals laid is =
      ap (λ (t : List Row). least_with (least_with before (rows_out layout columns style t)) (totals_out layout columns style totals)) is
      ∙ sym (fold-append lesser before (rows_out layout columns style (laid_rows layout columns rows)) (totals_out layout columns style totals))

-- of three lists, one after another
pub least_of : (xs ys zs : List (List ℕ)) → least_with (least_with (least_with None xs) ys) zs ≡ least (xs ++ ys ++ zs)
least_of xs ys zs =
    ap (λ (before : Option (List ℕ)). least_with before zs) (sym (fold-append lesser None xs ys)) ∙ sym (fold-append lesser None (xs ++ ys) zs)

-- ---- both sections and the last line

module _ (statement : Statement) (layout : Layout) (columns : ℕ) (style : List ℕ → Style) (first second : List Row) (firsts seconds : List Sums)
    (one_is : firsts ≡ part_totals layout.order columns first) (two_is : seconds ≡ part_totals layout.order columns second) where
  net_same : net columns firsts seconds ≡ net_of layout columns first second
  net_same = λ i. net columns (one_is i) (two_is i)

  pub body_is : (one two : Section) (sections : List Section) (last : Option (List ℕ × List Cell))
      → exactly one ≡ part_section layout columns style (first_of statement) first firsts
      → exactly two ≡ part_section layout columns style (second_of statement) second seconds
      → sections ≡ one ∷ two ∷ []
      → exact_last last ≡ net_line layout columns style (net columns firsts seconds)
      → IsBody statement layout columns style first second (record { sections = sections; last = last })
  body_is one two sections last made_one made_two is made_last = record {
    sections = ap (map exactly) is
        ∙ (λ i. (made_one ∙ ap (part_section layout columns style (first_of statement) first) one_is) i
        ∷ (made_two ∙ ap (part_section layout columns style (second_of statement) second) two_is) i ∷ []);
    last = made_last ∙ ap (net_line layout columns style) net_same;
  }

  pub out_is : least_with (least_with (least_with None (totals_out layout columns style (net columns firsts seconds))) (part_out layout columns style first firsts)) (part_out layout columns style second seconds)
      ≡ least (parts_out layout columns style first second)
  out_is =
      least_of (totals_out layout columns style (net columns firsts seconds)) (part_out layout columns style first firsts) (part_out layout columns style second seconds)
      ∙ (λ i. least (totals_out layout columns style (net_same i) ++ part_out layout columns style first (one_is i) ++ part_out layout columns style second (two_is i)))

  -- the same as it is kept
  pub least_is : (one two three : Option (List ℕ)) (upper lower : List Sums) → upper ≡ firsts → lower ≡ seconds
      → one ≡ least_with None (totals_out layout columns style (net columns upper lower))
      → two ≡ least_with one (part_out layout columns style first firsts)
      → three ≡ least_with two (part_out layout columns style second seconds)
      → three ≡ least (parts_out layout columns style first second)
  least_is one two three upper lower upper_is lower_is kept_one kept_two kept_three =
      kept_three
      ∙ ap (λ (before : Option (List ℕ)). least_with before (part_out layout columns style second seconds))
      (kept_two ∙ ap (λ (before : Option (List ℕ)). least_with before (part_out layout columns style first firsts))
      (kept_one ∙ (λ i. least_with None (totals_out layout columns style (net columns (upper_is i) (lower_is i))))))
      ∙ out_is
