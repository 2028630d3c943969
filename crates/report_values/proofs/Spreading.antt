-- The sums of rows as takings, read one after another.
use Rattle.std.proofs.Common.{◌≡◌, ℕ, zero, suc, ℤ, pos, ◌+◌, ◌-◌, ◌^◌, ◌<◌, ◌≤◌, ◌*ℤ◌, List, [], ◌∷◌, ◌++◌, length, map, take, get_or, append_assoc, Some, refl, sym, ap, subst, ◌∙◌, arith}
use Rattle.std.specs.List.{AllByRecursion}
use Rattle.std.proofs.lemmas.Int.{ints}
use Rattle.hl_num.specs.Decimal.{Decimal, units_of, IsTrimmed}
use Rattle.hl_time.specs.declared.spans.Span.{Span}
use Rattle.entry_balance.specs.Values.{trimmed}
use Rattle.hl_num.proofs.Trimmed.{same_trimmed, trimmed-units, trimmed-places, trimmed-is}
use Rattle.prices.proofs.Both.{take_more}
use Rattle.report_cells.specs.Report.{Sums, seen, row_seen, rows_in, cell, accounts_in}
use Rattle.report_cells.specs.Taken.{Taken}
use Rattle.report_cells.specs.declared.cells.CellRow.{CellRow}
use Rattle.report_cells.specs.declared.reach.Reach.{Reach}
use Rattle.report_values.specs.Spread.{bare, summed, cells_from, spread_row}
use Rattle.report_values.proofs.Lists.{map-push}

-- one cell more
pub cells-push : (account : List ℕ) (n m : ℕ) (cells : List (List (List ℕ × ℤ))) (cell : List (List ℕ × ℤ)) → m ≡ n + length cells → cells_from account n (cells ++ cell ∷ []) ≡ cells_from account n cells ++ map (summed account m) cell
cells-push account n m [] cell is =
    let same : n ≡ m = omega (arith, is) in
    append_nil (map (summed account n) cell) ∙ ap (λ k. map (summed account k) cell) same
  where
    append_nil : (xs : List Taken) → xs ++ [] ≡ xs
    append_nil [] = refl
    append_nil (x ∷ xs) = ap (λ (t : List Taken). x ∷ t) (append_nil xs)
cells-push account n m (c ∷ cells) cell is =
    let same : m ≡ (n + 1) + length cells = omega (arith, is) in
    ap (λ (t : List Taken). map (summed account n) c ++ t) (cells-push account (n + 1) m cells cell same)
    ∙ sym (append_assoc (map (summed account n) c) (cells_from account (n + 1) cells) (map (summed account m) cell))

-- ---- the rows of a report have as many cells as columns

mapped-length : {A B : Type 0} (f : A → B) (xs : List A) → length (map f xs) ≡ length xs
mapped-length f [] = refl
mapped-length f (x ∷ xs) = ap suc (mapped-length f xs)

module _ (P : ℕ → Type 0) where
  all_made : (make : List ℕ → List (List (List ℕ × ℤ))) → ((a : List ℕ) → P (length (make a))) → (accounts : List (List ℕ)) → AllByRecursion (λ (row : List ℕ × List (List (List ℕ × ℤ))). P (length row.1)) (map (λ a. (a, make a)) accounts)
  all_made make each [] = tt
  all_made make each (a ∷ accounts) = (each a, all_made make each accounts)

  all_seen : (rows : List CellRow) → AllByRecursion (λ (row : List ℕ × List (List (List ℕ × ℤ))). P (length row.1)) (map row_seen rows) → AllByRecursion (λ (row : CellRow). P (length row.cells)) rows
  all_seen [] h = tt
  all_seen (row ∷ rows) h = (subst P (mapped-length seen row.cells) h.0, all_seen rows h.1)

  pub whole_rows : (reach : Reach) (columns : List Span) (ts : List Taken) (rows : List CellRow) → P (length columns) → map row_seen rows ≡ rows_in reach columns ts → AllByRecursion (λ (row : CellRow). P (length row.cells)) rows
  whole_rows reach columns ts rows p is =
      all_seen rows (subst (AllByRecursion (λ (row : List ℕ × List (List (List ℕ × ℤ))). P (length row.1))) (sym is)
      (all_made (λ account. map (λ column. cell reach ts column account) columns) (λ a. subst P (sym (mapped-length (λ column. cell reach ts column a) columns)) p) (accounts_in ts)))

length-take_within : {A : Type 0} (xs : List A) (i : ℕ) → i < length xs → length (take i xs) ≡ i
length-take_within [] zero lt = refl
length-take_within [] (suc i) lt = absurd (omega (arith, lt))
length-take_within (x ∷ xs) zero lt = refl
length-take_within (x ∷ xs) (suc i) lt = ap suc (length-take_within xs i (omega (arith, lt)))

-- the next cell of a row
pub cells_more : (account : List ℕ) (cells : List (List (List ℕ × Decimal))) (i : ℕ) (cell : List (List ℕ × Decimal)) → i < length cells → cell ≡ get_or cells i cell → cells_from account 0 (map seen (take i cells)) ++ map (summed account i) (seen cell) ≡ cells_from account 0 (map seen (take (i + 1) cells))
cells_more account cells i cell within is =
    let done : take (i + 1) cells ≡ take i cells ++ cell ∷ [] = take_more cells i cell within is in
    let size : i ≡ 0 + length (map seen (take i cells)) = omega (arith, mapped-length seen (take i cells), length-take_within cells i within) in
    sym (ap (λ (cs : List (List (List ℕ × Decimal))). cells_from account 0 (map seen cs)) done
    ∙ ap (cells_from account 0) (map-push seen (take i cells) cell)
    ∙ cells-push account 0 i (map seen (take i cells)) (seen cell) size)

-- the next sum of a cell
pub cell_more : (account : List ℕ) (number : ℕ) (entries : List (List ℕ × Decimal)) (i : ℕ) (entry : List ℕ × Decimal) (value : Decimal) → i < length entries → entry ≡ get_or entries i entry → value ≡ trimmed (units_of entry.1) 36
    → map (summed account number) (seen (take i entries)) ++ record { account = account; day = number; amount = Some (entry.0, value) } ∷ [] ≡ map (summed account number) (seen (take (i + 1) entries))
cell_more account number entries i entry value within read is =
    ap (λ (d : Decimal). map (summed account number) (seen (take i entries)) ++ record { account = account; day = number; amount = Some (entry.0, d) } ∷ []) is
    ∙ sym (ap (λ (es : List (List ℕ × Decimal)). map (summed account number) (seen es)) (take_more entries i entry within read)
    ∙ ap (map (summed account number)) (map-push (λ (e : List ℕ × Decimal). (e.0, units_of e.1)) (take i entries) entry)
    ∙ map-push (summed account number) (seen (take i entries)) (entry.0, units_of entry.1))
