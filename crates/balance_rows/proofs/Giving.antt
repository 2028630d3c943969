-- The groups while rows are given to their accounts, one after another.
use Rattle.std.proofs.Common.{◌≡◌, ℕ, ◌+◌, ◌<◌, true, false, cond, List, [], ◌∷◌, ◌++◌, length, get_or, map, filter, take, refl, sym, ap, ◌∙◌, append-nil}
use Rattle.std.specs.List.{flat_map, fold, range_with_len}
use Rattle.std.proofs.lemmas.List.{map-append, take_more}
use Rattle.std.proofs.lemmas.List.Sums.{fold-append}
use Rattle.std.proofs.lemmas.List.Concat.{flat_map-append}
use Rattle.report_cells.specs.declared.cells.CellRow.{CellRow}
use Rattle.balance_rows.specs.Groups.{Groups, KeptCells, given_at, group_with, grouped, kept_given}
use Rattle.balance_rows.specs.Trees.{is_colon_at, lineage, parents}
use Rattle.balance_rows.proofs.RowsLaws.{colons-push}

-- what the accounts are given whose names end before a place
abbrev pub given_before : List ℕ → KeptCells → ℕ → List (List ℕ × KeptCells)
given_before account cells n = map (λ name. (name, cells)) (map (λ at. take at account) (filter (is_colon_at account) (range_with_len 0 n)))

more : (account : List ℕ) (cells : KeptCells) (n : ℕ) → given_before account cells (n + 1) ≡ given_before account cells n ++ map (λ name. (name, cells)) (map (λ at. take at account) (cond (is_colon_at account n) (n ∷ []) []))
more account cells n =
    ap (λ (ats : List ℕ). map (λ name. (name, cells)) (map (λ at. take at account) ats)) (colons-push account n)
    ∙ ap (map (λ name. (name, cells))) (map-append (λ at. take at account) (filter (is_colon_at account) (range_with_len 0 n)) (cond (is_colon_at account n) (n ∷ []) []))
    ∙ map-append (λ name. (name, cells)) (map (λ at. take at account) (filter (is_colon_at account) (range_with_len 0 n))) (map (λ at. take at account) (cond (is_colon_at account n) (n ∷ []) []))

one_more : (account : List ℕ) (cells : KeptCells) (n : ℕ) → given_before account cells (n + 1) ≡ given_before account cells n ++ given_at account cells n
one_more account cells n =
    more account cells n
    ∙ ap (λ (t : List (List ℕ × KeptCells)). given_before account cells n ++ t)
    (elim (is_colon_at account n) as (λ b. map {B = List ℕ × KeptCells} (λ (name : List ℕ). (name, cells)) (map (λ (at : ℕ). take at account) (cond b (n ∷ []) [])) ≡ cond b ((take n account, cells) ∷ []) []) [ true ↦ refl | false ↦ refl ])

-- the account that ends at one more place
pub given_more : (account : List ℕ) (cells : KeptCells) (old now new : Groups) (n : ℕ) → now ≡ fold group_with old (given_before account cells n) → new ≡ fold group_with now (given_at account cells n)
    → new ≡ fold group_with old (given_before account cells (n + 1))
given_more account cells old now new n is one =
    one ∙ ap (λ (groups : Groups). fold group_with groups (given_at account cells n)) is
    ∙ sym (fold-append group_with old (given_before account cells n) (given_at account cells n))
    ∙ ap (fold group_with old) (sym (one_more account cells n))

-- the account itself comes last
pub account_given : (account : List ℕ) (cells : KeptCells) (old now new : Groups) → now ≡ fold group_with old (map (λ name. (name, cells)) (parents account)) → new ≡ group_with now (account, cells)
    → new ≡ fold group_with old (map (λ name. (name, cells)) (lineage account))
account_given account cells old now new is one =
    one ∙ ap (λ (groups : Groups). group_with groups (account, cells)) is
    ∙ sym (fold-append group_with old (map (λ name. (name, cells)) (parents account)) ((account, cells) ∷ []))
    ∙ ap (fold group_with old) (sym (map-append (λ name. (name, cells)) (parents account) (account ∷ [])))

-- a row more
pub row_given : (rows : List CellRow) (i : ℕ) (row : CellRow) (now new : Groups) → i < length rows → row ≡ get_or rows i row → now ≡ grouped (flat_map kept_given (take i rows)) → new ≡ fold group_with now (kept_given row)
    → new ≡ grouped (flat_map kept_given (take (i + 1) rows))
row_given rows i row now new within read is given =
    given ∙ ap (λ (groups : Groups). fold group_with groups (kept_given row)) is
    ∙ sym (fold-append group_with [] (flat_map kept_given (take i rows)) (kept_given row))
    ∙ ap grouped (sym (
    ap (flat_map kept_given) (take_more rows i row within ∙ ap (λ (x : CellRow). take i rows ++ x ∷ []) (sym read))
    ∙ flat_map-append kept_given (take i rows) (row ∷ [])
    ∙ ap (λ (t : List (List ℕ × KeptCells)). flat_map kept_given (take i rows) ++ t) (append-nil (kept_given row))))
