-- One line and one column on, in measuring a table.
use Rattle.std.proofs.Common.{◌≡◌, ℕ, zero, suc, ◌+◌, ◌<◌, List, [], ◌∷◌, ◌++◌, map, max, length, drop, get_or, refl, sym, ap, ◌∙◌, arith}
use Rattle.std.specs.List.{flat_map, range_with_len}
use Rattle.std.proofs.lemmas.List.{at_drop_more, map-append}
use Rattle.report_table.specs.Cells.{width_of, widest}
use Rattle.report_table.specs.Tables.{cells_at, column_width, column_widths, names_in}
use Rattle.report_table.specs.declared.lines.TableLine.{TableLine}

pub widest-max : (w least : ℕ) (texts : List (List ℕ)) → widest (max w least) texts ≡ max w (widest least texts)
widest-max w least [] = refl
widest-max w least (t ∷ ts) =
    let rest : widest (max w least) ts ≡ max w (widest least ts) = widest-max w least ts in
    rw rest (omega arith)

pub widest-append : (least : ℕ) (xs ys : List (List ℕ)) → widest least (xs ++ ys) ≡ widest (widest least xs) ys
widest-append least [] ys = refl
widest-append least (x ∷ xs) ys =
    ap (max (width_of x)) (widest-append least xs ys) ∙ sym (widest-max (width_of x) (widest least xs) ys)

-- one line on
next_line : (f : TableLine → List (List ℕ)) (least : ℕ) (lines : List TableLine) (i : ℕ) (d : TableLine) → i < length lines
    → widest (widest least (f (get_or lines i d))) (flat_map f (drop (i + 1) lines)) ≡ widest least (flat_map f (drop i lines))
next_line f least lines i d h =
    sym (at_drop_more (λ rest. widest least (flat_map f rest)) lines i d h
    ∙ widest-append least (f (get_or lines i d)) (flat_map f (drop (i + 1) lines)))

-- one name on
pub next_name : (least : ℕ) (lines : List TableLine) (i : ℕ) (d : TableLine) → i < length lines
    → widest (widest least (names_in (get_or lines i d))) (flat_map names_in (drop (i + 1) lines))
    ≡ widest least (flat_map names_in (drop i lines))
next_name least lines i d h = next_line names_in least lines i d h

-- one cell of a column on
pub next_cell : (at least : ℕ) (lines : List TableLine) (i : ℕ) (d : TableLine) → i < length lines
    → widest (widest least (cells_at at (get_or lines i d))) (flat_map (cells_at at) (drop (i + 1) lines))
    ≡ widest least (flat_map (cells_at at) (drop i lines))
next_cell at least lines i d h = next_line (cells_at at) least lines i d h

-- numbers from one on, and the next
range_next : (a n j : ℕ) → a + n ≡ j → range_with_len a (suc n) ≡ range_with_len a n ++ j ∷ []
range_next a zero j e = let same : a ≡ j = omega arith in ap (λ k. k ∷ []) same
range_next a (suc n) j e = ap (λ rest. a ∷ rest) (range_next (a + 1) n j (omega arith))

-- one column on
pub next_column : (lines : List TableLine) (at : ℕ) → column_widths at lines ++ column_width lines at ∷ [] ≡ column_widths (at + 1) lines
next_column lines at =
    let on : at + 1 ≡ suc at = omega arith in
    sym (ap (λ n. map (column_width lines) (range_with_len 0 n)) on
    ∙ ap (map (column_width lines)) (range_next 0 at at (omega arith))
    ∙ map-append (column_width lines) (range_with_len 0 at) (at ∷ []))
