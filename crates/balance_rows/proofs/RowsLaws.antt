-- Rows that stay, and names of accounts.
use Rattle.std.proofs.Common.{◌≡◌, ℕ, zero, suc, ◌+◌, ◌≤◌, ◌||◌, Bool, true, false, cond, List, [], ◌∷◌, ◌++◌, length, map, filter, take, get_or, ◌<◌, refl, sym, ap, ◌∙◌, arith, add-one}
use Rattle.std.specs.List.{list_any, range_with_len}
use Rattle.std.proofs.lemmas.List.{map-append}
use Rattle.std.proofs.lemmas.List.Elements.{filter-append}
use Rattle.report_cells.specs.declared.cells.CellRow.{CellRow}
use Rattle.report_cells.specs.Report.{Sums, row_seen, seen}
use Rattle.balance_rows.specs.Kept.{KeptSums}
use Rattle.balance_rows.specs.Rows.{Row, has_sums, is_shown, shown_rows}
use Rattle.balance_rows.specs.Trees.{is_colon_at}

-- one row more
pub shown-push : (rows : List CellRow) (row : CellRow) → filter is_shown (map row_seen (rows ++ row ∷ [])) ≡ filter is_shown (map row_seen rows) ++ cond (is_shown (row_seen row)) (row_seen row ∷ []) []
shown-push rows row = ap (filter is_shown) (map-append row_seen rows (row ∷ [])) ∙ filter-append is_shown (map row_seen rows) (row_seen row ∷ [])

-- all stay where empty ones do
pub shown-all : (rows : List Row) → shown_rows true rows ≡ rows
shown-all [] = refl
shown-all (row ∷ rows) = ap (λ (rest : List Row). row ∷ rest) (shown-all rows)

pub shown-some : (rows : List Row) → shown_rows false rows ≡ filter is_shown rows
shown-some rows = refl

-- a cell further
pub any-push : (cells : List KeptSums) (i : ℕ) (d : KeptSums) → i < length cells → list_any has_sums (map seen (take i cells)) ≡ false → has_sums (seen (get_or cells i d)) ≡ false → list_any has_sums (map seen (take (i + 1) cells)) ≡ false
any-push [] i d within none here = absurd (omega arith)
any-push (cell ∷ cells) zero d within none here = ap (λ (b : Bool). b || false) here
any-push (cell ∷ cells) (suc i) d within none here =
    let e : suc i + 1 ≡ suc (i + 1) = omega arith in
    rw e (elim (has_sums (seen cell)) as (λ b. (b || list_any has_sums (map seen (take i cells))) ≡ false → (b || list_any has_sums (map seen (take (i + 1) cells))) ≡ false) [
      | true ↦ λ h. h
      | false ↦ λ h. any-push cells i d (omega arith) h here
    ] none)

pub any-at : (cells : List KeptSums) (i : ℕ) (d : KeptSums) → i < length cells → has_sums (seen (get_or cells i d)) ≡ true → list_any has_sums (map seen cells) ≡ true
any-at [] i d within here = absurd (omega arith)
any-at (cell ∷ cells) zero d within here = ap (λ (b : Bool). b || list_any has_sums (map seen cells)) here
any-at (cell ∷ cells) (suc i) d within here =
    elim (has_sums (seen cell)) as (λ b. (b || list_any has_sums (map seen cells)) ≡ true) [
      | true ↦ refl
      | false ↦ any-at cells i d (omega arith) here
    ]

-- ---- names

pub range-push : (a n : ℕ) → range_with_len a (n + 1) ≡ range_with_len a n ++ (a + n) ∷ []
range-push a zero = let e : a ≡ a + 0 = omega arith in ap (λ (k : ℕ). k ∷ []) e
range-push a (suc n) =
    let e : suc n + 1 ≡ suc (n + 1) = omega arith in
    let f : a + 1 + n ≡ a + suc n = omega arith in
    rw e (ap (λ (rest : List ℕ). a ∷ rest) (range-push (a + 1) n ∙ ap (λ (k : ℕ). range_with_len (a + 1) n ++ k ∷ []) f))

-- one place more
pub colons-push : (name : List ℕ) (n : ℕ) → filter (is_colon_at name) (range_with_len 0 (n + 1)) ≡ filter (is_colon_at name) (range_with_len 0 n) ++ cond (is_colon_at name n) (n ∷ []) []
colons-push name n =
    let e : 0 + n ≡ n = omega arith in
    ap (filter (is_colon_at name)) (range-push 0 n ∙ ap (λ (k : ℕ). range_with_len 0 n ++ k ∷ []) e)
    ∙ filter-append (is_colon_at name) (range_with_len 0 n) (n ∷ [])

-- a cell that has sums is one of them
pub any_here : (cells : List KeptSums) (i : ℕ) (x : KeptSums) → i < length cells → x ≡ get_or cells i x → has_sums (seen x) ≡ true → list_any has_sums (map seen cells) ≡ true
any_here cells i x within read here = any-at cells i x within (ap (λ (y : KeptSums). has_sums (seen y)) (sym read) ∙ here)
