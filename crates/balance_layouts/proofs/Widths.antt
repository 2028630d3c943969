-- The widest text of a list, and the lines of amounts.
use Rattle.std.proofs.Common.{◌≡◌, ℕ, ◌+◌, ◌<◌, Bool, false, cond, List, [], ◌∷◌, ◌++◌, map, max, length, drop, get_or, refl, sym, ap, ◌∙◌, arith, append_assoc, append-nil}
use Rattle.std.specs.List.{flat_map}
use Rattle.std.proofs.lemmas.List.{at_drop_more}
use Rattle.hl_base.specs.Ascii.{line_feed}
use Rattle.book.specs.declared.style.Style.{Style}
use Rattle.report_cells.specs.Report.{Sums}
use Rattle.report_table.specs.Cells.{width_of, widest}
use Rattle.report_table.specs.Tables.{right_aligned}
use Rattle.report_table.proofs.Measuring.{widest-append, widest-max}
use Rattle.balance_rows.specs.declared.layout.Layout.{Layout}
use Rattle.balance_rows.specs.Layouts.{name_in}
use Rattle.balance_rows.specs.Rows.{Row, first_cell}
use Rattle.balance_layouts.specs.Lists.{balance_list, least_columns, list_above}
use Rattle.balance_layouts.specs.Shown.{Printed, amount_lines, named_line, printed_row, row_lines, texts_of}

pub widest-swap : (least : ℕ) (xs ys : List (List ℕ)) → widest least (xs ++ ys) ≡ widest (widest least ys) xs
widest-swap least [] ys = refl
widest-swap least (x ∷ xs) ys = ap (max (width_of x)) (widest-swap least xs ys)

-- one text on
pub widest_next : (least : ℕ) (texts : List (List ℕ)) (i : ℕ) (d : List ℕ) → i < length texts
    → widest (max least (width_of (get_or texts i d))) (drop (i + 1) texts) ≡ widest least (drop i texts)
widest_next least texts i d h =
    let w : ℕ = width_of (get_or texts i d) in
    let turned : max least w ≡ max w least = omega arith in
    rw turned (widest-max w least (drop (i + 1) texts) ∙ sym (at_drop_more (widest least) texts i d h))

-- one row on
pub widest_next_row : (least : ℕ) (rows : List (List ℕ × List (List ℕ))) (i : ℕ) (d : List ℕ × List (List ℕ)) → i < length rows
    → widest (widest least (get_or rows i d).1) (flat_map (λ row. row.1) (drop (i + 1) rows)) ≡ widest least (flat_map (λ row. row.1) (drop i rows))
widest_next_row least rows i d h =
    sym (at_drop_more (λ rest. widest least (flat_map (λ row. row.1) rest)) rows i d h
    ∙ widest-append least (get_or rows i d).1 (flat_map (λ row. row.1) (drop (i + 1) rows)))

-- the lines of the amounts before the last, and then the last one's
amount_lines_last : (width : ℕ) (name : List ℕ) (texts : List (List ℕ)) (last : List ℕ)
    → amount_lines width name (texts ++ last ∷ []) ≡ flat_map (λ text. right_aligned width text ++ (line_feed ∷ [])) texts ++ named_line width name last
amount_lines_last width name [] last = refl
amount_lines_last width name (text ∷ []) last =
    rw (append-nil (right_aligned width text ++ (line_feed ∷ []))) refl
amount_lines_last width name (text ∷ other ∷ texts) last =
    ap (λ more. right_aligned width text ++ (line_feed ∷ []) ++ more) (amount_lines_last width name (other ∷ texts) last)
    ∙ sym (append_assoc (right_aligned width text ++ (line_feed ∷ [])) _ _)

-- the same after what stands before them
pub amount_lines_after : (start : List ℕ) (width : ℕ) (name : List ℕ) (texts : List (List ℕ)) (last : List ℕ)
    → start ++ amount_lines width name (texts ++ last ∷ [])
    ≡ start ++ flat_map (λ text. right_aligned width text ++ (line_feed ∷ [])) texts ++ named_line width name last
amount_lines_after start width name texts last =
    ap (λ more. start ++ more) (amount_lines_last width name texts last) ∙ sym (append_assoc start _ _)

-- a list that is made of its parts
pub list_from_parts : (style : List ℕ → Style) (layout : Layout) (rows : List Row) (totals : List Sums) (shown : List Printed) (total : List (List ℕ)) (text : List ℕ)
    → layout.no_total ≡ false → shown ≡ map (printed_row (name_in layout.order) style) rows → total ≡ texts_of style (first_cell totals)
    → text ≡ list_above (widest (widest least_columns total) (flat_map (λ (row : Printed). row.1) shown)) shown total
    → text ≡ balance_list layout style rows totals
list_from_parts style layout rows totals shown total text with_total rowed totalled made =
    let all = map (printed_row (name_in layout.order) style) rows in
    let end = texts_of style (first_cell totals) in
    made
    ∙ (λ i. list_above (widest (widest least_columns (totalled i)) (flat_map (λ (row : Printed). row.1) (rowed i))) (rowed i) (totalled i))
    ∙ ap (λ (width : ℕ). list_above width all end) (sym (widest-swap least_columns (flat_map (λ (row : Printed). row.1) all) end))
    ∙ ap (λ (b : Bool). cond b (flat_map (row_lines (widest least_columns (flat_map (λ (row : Printed). row.1) all))) all) (list_above (widest least_columns (flat_map (λ (row : Printed). row.1) all ++ end)) all end)) (sym with_total)
