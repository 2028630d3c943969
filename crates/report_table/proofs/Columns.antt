-- Cells in their columns, one after another.
use Rattle.std.proofs.Common.{◌≡◌, ℕ, ◌+◌, ◌<◌, ◌≤◌, List, [], ◌∷◌, ◌++◌, min, length, take, get_or, sym, ap, ◌∙◌, arith, append-nil, append_assoc}
use Rattle.std.specs.List.{flat_map, zip}
use Rattle.std.proofs.lemmas.Grind.{flat_map-append}
use Rattle.std.proofs.lemmas.List.{take_all, take_more}
use Rattle.std.proofs.lemmas.Slice.Zip.{get_or-zip, length-zip}
use Rattle.report_table.specs.Tables.{aligned, framed}

-- one cell on
next_framed : (widths : List ℕ) (cells : List (List ℕ)) (at width : ℕ) (cell : List ℕ) → at < length widths → at < length cells
    → width ≡ get_or widths at 0 → cell ≡ get_or cells at cell
    → flat_map (λ (pair : ℕ × List ℕ). framed pair.0 pair.1) (take (at + 1) (zip widths cells))
    ≡ flat_map (λ (pair : ℕ × List ℕ). framed pair.0 pair.1) (take at (zip widths cells)) ++ framed width cell
next_framed widths cells at width cell below_widths below_cells width_is cell_is =
    let f : ℕ × List ℕ → List ℕ = λ pair. framed pair.0 pair.1 in
    let pairs : List (ℕ × List ℕ) = zip widths cells in
    let here : get_or pairs at (0, cell) ≡ (width, cell) =
    get_or-zip widths cells at (0, cell) below_widths below_cells ∙ ap (λ w. (w, get_or cells at cell)) (sym width_is) ∙ ap (λ c. (width, c)) (sym cell_is) in
    let inside : at < length pairs = omega (arith, length-zip widths cells) in
    ap (flat_map f) (take_more pairs at (0, cell) inside ∙ ap (λ pair. take at pairs ++ pair ∷ []) here)
    ∙ flat_map-append f (take at pairs) ((width, cell) ∷ [])
    ∙ ap (λ rest. flat_map f (take at pairs) ++ rest) (append-nil (framed width cell))

-- the same behind what stands before them
pub one_framed : (start before now : List ℕ) (widths : List ℕ) (cells : List (List ℕ)) (at width : ℕ) (cell : List ℕ) → at < length widths → at < length cells
    → width ≡ get_or widths at 0 → cell ≡ get_or cells at cell
    → before ≡ start ++ flat_map (λ (pair : ℕ × List ℕ). framed pair.0 pair.1) (take at (zip widths cells))
    → now ≡ before ++ framed width cell
    → now ≡ start ++ flat_map (λ (pair : ℕ × List ℕ). framed pair.0 pair.1) (take (at + 1) (zip widths cells))
one_framed start before now widths cells at width cell below_widths below_cells width_is cell_is so_far pushed =
    pushed ∙ ap (λ l. l ++ framed width cell) so_far
    ∙ append_assoc start (flat_map (λ (pair : ℕ × List ℕ). framed pair.0 pair.1) (take at (zip widths cells))) (framed width cell)
    ∙ ap (λ l. start ++ l) (sym (next_framed widths cells at width cell below_widths below_cells width_is cell_is))

-- all of them
pub all_framed : (widths : List ℕ) (cells : List (List ℕ)) (at : ℕ) → min (length widths) (length cells) ≤ at
    → flat_map (λ (cell : ℕ × List ℕ). framed cell.0 cell.1) (take at (zip widths cells)) ≡ aligned widths cells
all_framed widths cells at enough =
    ap (flat_map (λ (cell : ℕ × List ℕ). framed cell.0 cell.1)) (take_all at (zip widths cells) (omega (arith, length-zip widths cells)))
