-- The rows of a tree are those of the groups, and each account counts a row once.
use Rattle.std.proofs.Common.{◌≡◌, ℕ, zero, suc, ◌+◌, ◌<◌, ◌≤◌, ◌==◌, ◌⊎◌, inl, inr, Bool, true, false, cond, List, [], ◌∷◌, ◌++◌, length, map, filter, take, get_or, Option, Some, None, refl, sym, ap, subst, ◌∙◌, append-nil, arith}
use Rattle.std.specs.List.{AllByRecursion, flat_map, range_with_len}
use Rattle.std.specs.Str.{bytes_eq}
use Rattle.std.proofs.lemmas.Bool.{cases_lt}
use Rattle.std.proofs.lemmas.List.{map-append, length-take-le}
use Rattle.std.proofs.lemmas.List.Elements.{filter-append}
use Rattle.std.proofs.lemmas.List.Concat.{flat_map-append}
use Rattle.std.proofs.lemmas.Slice.Eq.{bytes_eq-Decides}
use Rattle.book.specs.Accounts.{account_cmp}
use Rattle.book.specs.Order.{each_once}
use Rattle.report_cells.specs.declared.cells.CellRow.{CellRow}
use Rattle.report_cells.specs.Report.{Sums, row_seen, seen}
use Rattle.balance_rows.specs.Fitting.{Fit, IsWhole, column_entries, turnover}
use Rattle.balance_rows.specs.Groups.{ColumnsAdd, Groups, KeptCells, group_row, group_sums, grouped, kept_given}
use Rattle.balance_rows.specs.Kept.{KeptSums, EachFits, added_all, all_entries, kept_at}
use Rattle.balance_rows.specs.Rows.{Row, cell_at}
use Rattle.balance_rows.specs.Sums.{entries_of, summed}
use Rattle.balance_rows.specs.Trees.{column_sums, given, is_colon_at, joined, lineage, of_name, parents, tree}
use Rattle.balance_rows.proofs.Entries.{all-append, all-first, all-rest, turnover-append}
use Rattle.balance_rows.proofs.Fits.{IsPart, can_add_cells, cells_sum, fit_part, part-itself, part-none}
use Rattle.balance_rows.proofs.GroupsLaws.{cells_of, grouped-is}
use Rattle.balance_rows.proofs.Holding.{alike, bytes_eq-itself}

-- ---- reading a place

pub at_some : (cells : List KeptSums) (at : ℕ) (d : KeptSums) → at < length cells → get_or cells at [] ≡ get_or cells at d
at_some [] at d h = absurd (omega arith)
at_some (cell ∷ cells) zero d h = refl
at_some (cell ∷ cells) (suc at) d h = at_some cells at d (omega arith)

pub seen_at : (cells : KeptCells) (at : ℕ) → cell_at at (map seen cells) ≡ seen (kept_at at cells)
seen_at [] at = refl
seen_at (cell ∷ cells) zero = refl
seen_at (cell ∷ cells) (suc at) = seen_at cells at

-- ---- an account stands once among those that a row counts for

module _ (name a : List ℕ) where
  -- the fronts up to colons, from a place on, that are equal to a name
  abbrev among : ℕ → ℕ → List (List ℕ)
  among low n = filter (λ x. bytes_eq x a) (map (λ at. take at name) (filter (is_colon_at name) (range_with_len low n)))

  front_length : (at : ℕ) → at ≤ length name → take at name ≡ a → at ≡ length a
  front_length at within same =
      let long : length (take at name) ≡ at = length-take-le at name within in
      sym long ∙ ap length same

  -- a place that isn't a front's end adds nothing
  skip : (low n : ℕ) → bytes_eq (take low name) a ≡ false → among low (suc n) ≡ among (low + 1) n
  skip low n differ =
      elim (is_colon_at name low) as (λ b. filter (λ x. bytes_eq x a) (map (λ at. take at name) (cond b (low ∷ filter (is_colon_at name) (range_with_len (low + 1) n)) (filter (is_colon_at name) (range_with_len (low + 1) n)))) ≡ among (low + 1) n) [
        | true ↦ ap (λ (b : Bool). cond b (take low name ∷ among (low + 1) n) (among (low + 1) n)) differ
        | false ↦ refl
      ]

  other_length : (at : ℕ) → at ≤ length name → (at ≡ length a → ⊥) → bytes_eq (take at name) a ≡ false
  other_length at within other = elim (alike (take at name) a) [
    | inl same ↦ absurd (other (front_length at within same))
    | inr differ ↦ differ
  ]

  none_longer : (low n : ℕ) → low + n ≤ length name → length a < low → among low n ≡ []
  none_longer low zero within longer = refl
  none_longer low (suc n) within longer =
      skip low n (other_length low (omega arith) (λ e. omega arith)) ∙ none_longer (low + 1) n (omega arith) (omega arith)

  none_shorter : (low n : ℕ) → low + n ≤ length name → low + n ≤ length a → among low n ≡ []
  none_shorter low zero within shorter = refl
  none_shorter low (suc n) within shorter =
      skip low n (other_length low (omega arith) (λ e. omega arith)) ∙ none_shorter (low + 1) n (omega arith) (omega arith)

  at_most_one : (low n : ℕ) → low + n ≤ length name → (among low n ≡ []) ⊎ (among low n ≡ a ∷ [])
  at_most_one low zero within = inl refl
  at_most_one low (suc n) within =
      elim (alike (take low name) a) [
        | inl same ↦
            let none : among (low + 1) n ≡ [] = none_longer (low + 1) n (omega arith) (omega (arith, front_length low (omega arith) same)) in
            elim (is_colon_at name low) as (λ b. (filter (λ x. bytes_eq x a) (map (λ at. take at name) (cond b (low ∷ filter (is_colon_at name) (range_with_len (low + 1) n)) (filter (is_colon_at name) (range_with_len (low + 1) n)))) ≡ []) ⊎ (filter (λ x. bytes_eq x a) (map (λ at. take at name) (cond b (low ∷ filter (is_colon_at name) (range_with_len (low + 1) n)) (filter (is_colon_at name) (range_with_len (low + 1) n)))) ≡ a ∷ [])) [
              | true ↦ inr (
                  ap (λ (b : Bool). cond b (take low name ∷ among (low + 1) n) (among (low + 1) n)) (subst (λ (x : List ℕ). bytes_eq x a ≡ true) (sym same) (bytes_eq-itself a))
                  ∙ (λ i. same i ∷ none i))
              | false ↦ inl none
            ]
        | inr differ ↦ subst (λ (t : List (List ℕ)). (t ≡ []) ⊎ (t ≡ a ∷ [])) (sym (skip low n differ)) (at_most_one (low + 1) n (omega arith))
      ]

  itself : (b : Bool) → bytes_eq name a ≡ b → filter (λ x. bytes_eq x a) (name ∷ []) ≡ cond b (name ∷ []) []
  itself b e = ap (λ (c : Bool). cond c (name ∷ []) []) e

  parted : filter (λ x. bytes_eq x a) (lineage name) ≡ among 0 (length name) ++ filter (λ x. bytes_eq x a) (name ∷ [])
  parted = filter-append (λ x. bytes_eq x a) (parents name) (name ∷ [])

  once : (filter (λ x. bytes_eq x a) (lineage name) ≡ []) ⊎ (filter (λ x. bytes_eq x a) (lineage name) ≡ a ∷ [])
  once = elim (alike name a) [
    | inl same ↦
        let none : among 0 (length name) ≡ [] = none_shorter 0 (length name) (omega arith) (omega (arith, ap length same)) in
        inr (parted ∙ (λ i. none i ++ itself true (subst (λ (x : List ℕ). bytes_eq x a ≡ true) (sym same) (bytes_eq-itself a)) i) ∙ ap (λ (x : List ℕ). x ∷ []) same)
    | inr differ ↦
        let all : filter (λ x. bytes_eq x a) (lineage name) ≡ among 0 (length name) = parted ∙ ap (λ (t : List (List ℕ)). among 0 (length name) ++ t) (itself false differ) ∙ append-nil (among 0 (length name)) in
        subst (λ (t : List (List ℕ)). (t ≡ []) ⊎ (t ≡ a ∷ [])) (sym all) (at_most_one 0 (length name) (omega arith))
  ]

-- ---- what counts for an account is a part of all

named : (a : List ℕ) (cells : List Sums) (names : List (List ℕ)) → of_name a (map (λ x. (x, cells)) names) ≡ map (λ x. (x, cells)) (filter (λ x. bytes_eq x a) names)
named a cells [] = refl
named a cells (x ∷ names) =
    elim (bytes_eq x a) as (λ b. cond b ((x, cells) ∷ of_name a (map (λ x. (x, cells)) names)) (of_name a (map (λ x. (x, cells)) names)) ≡ map (λ x. (x, cells)) (cond b (x ∷ filter (λ x. bytes_eq x a) names) (filter (λ x. bytes_eq x a) names))) [
      | true ↦ ap (λ (t : List Row). (x, cells) ∷ t) (named a cells names)
      | false ↦ named a cells names
    ]

pub part-join : (xs ys us vs : Sums) → IsPart xs us → IsPart ys vs → IsPart (xs ++ ys) (us ++ vs)
part-join xs ys us vs p q = record {
  less = λ symbol. omega (arith, turnover-append symbol xs ys, turnover-append symbol us vs, p.less symbol, q.less symbol);
  whole = λ places symbol h. all-append (IsWhole places symbol) xs ys (p.whole places symbol (all-first (IsWhole places symbol) us vs h)) (q.whole places symbol (all-rest (IsWhole places symbol) us vs h));
}

abbrev pub column : ℕ → List Row → Sums
column at rows = entries_of (map (λ row. cell_at at row.1) rows)

column-append : (at : ℕ) (xs ys : List Row) → column at (xs ++ ys) ≡ column at xs ++ column at ys
column-append at xs ys =
    ap entries_of (map-append (λ (row : Row). cell_at at row.1) xs ys)
    ∙ flat_map-append (λ (cell : Sums). cell) (map (λ (row : Row). cell_at at row.1) xs) (map (λ (row : Row). cell_at at row.1) ys)

part_row : (a : List ℕ) (at : ℕ) (row : Row) → IsPart (column at (of_name a (given row))) (cell_at at row.1)
part_row a at row =
    let is : of_name a (given row) ≡ map (λ x. (x, row.1)) (filter (λ x. bytes_eq x a) (lineage row.0)) = named a row.1 (lineage row.0) in
    let P : List (List ℕ) → Type 0 = λ names. IsPart (column at (map (λ x. (x, row.1)) names)) (cell_at at row.1) in
    subst (λ (rows : List Row). IsPart (column at rows) (cell_at at row.1)) (sym is)
    (elim (once row.0 a) [
      | inl none ↦ subst P (sym none) (part-none (cell_at at row.1))
      | inr one ↦ subst P (sym one) (subst (λ (t : Sums). IsPart t (cell_at at row.1)) (sym (append-nil (cell_at at row.1))) (part-itself (cell_at at row.1)))
    ])

part_rows : (a : List ℕ) (at : ℕ) (rows : List Row) → IsPart (column at (of_name a (flat_map given rows))) (column_entries at rows)
part_rows a at [] = part-none []
part_rows a at (row ∷ rows) =
    let split : column at (of_name a (given row ++ flat_map given rows)) ≡ column at (of_name a (given row)) ++ column at (of_name a (flat_map given rows)) =
    ap (column at) (filter-append (λ (row : Row). bytes_eq row.0 a) (given row) (flat_map given rows)) ∙ column-append at (of_name a (given row)) (of_name a (flat_map given rows)) in
    subst (λ (t : Sums). IsPart t (cell_at at row.1 ++ column_entries at rows)) (sym split)
    (part-join (column at (of_name a (given row))) (column at (of_name a (flat_map given rows))) (cell_at at row.1) (column_entries at rows) (part_row a at row) (part_rows a at rows))

-- so is what stays of some rows
pub fit_filter : (p : Row → Bool) (at : ℕ) (rows : List Row) → Fit (column_entries at rows) → Fit (column_entries at (filter p rows))
fit_filter p at rows fit = fit_part (column_entries at (filter p rows)) (column_entries at rows) (part_filter p at rows) fit
  where
    part_filter : (p : Row → Bool) (at : ℕ) (rows : List Row) → IsPart (column_entries at (filter p rows)) (column_entries at rows)
    part_filter p at [] = part-none []
    part_filter p at (row ∷ rows) =
        elim (p row) as (λ b. IsPart (column_entries at (cond b (row ∷ filter p rows) (filter p rows))) (cell_at at row.1 ++ column_entries at rows)) [
          | true ↦ part-join (cell_at at row.1) (column_entries at (filter p rows)) (cell_at at row.1) (column_entries at rows) (part-itself (cell_at at row.1)) (part_filter p at rows)
          | false ↦ part-join [] (column_entries at (filter p rows)) (cell_at at row.1) (column_entries at rows) (part-none (cell_at at row.1)) (part_filter p at rows)
        ]

-- ---- the groups say what the definition's rows do

abbrev item_seen : List ℕ × KeptCells → Row
item_seen item = (item.0, map seen item.1)

given_names : (cells : KeptCells) (names : List (List ℕ)) → map item_seen (map (λ x. (x, cells)) names) ≡ map (λ x. (x, map seen cells)) names
given_names cells [] = refl
given_names cells (x ∷ names) = ap (λ (t : List Row). (x, map seen cells) ∷ t) (given_names cells names)

items_seen : (rows : List CellRow) → map item_seen (flat_map kept_given rows) ≡ flat_map given (map row_seen rows)
items_seen [] = refl
items_seen (row ∷ rows) =
    map-append item_seen (kept_given row) (flat_map kept_given rows) ∙ (λ i. given_names row.cells (lineage row.account) i ++ items_seen rows i)

names_seen : (items : List (List ℕ × KeptCells)) → map (λ (row : Row). row.0) (map item_seen items) ≡ map (λ (item : List ℕ × KeptCells). item.0) items
names_seen [] = refl
names_seen (item ∷ items) = ap (λ (t : List (List ℕ)). item.0 ∷ t) (names_seen items)

group_seen : (a : List ℕ) (at : ℕ) (items : List (List ℕ × KeptCells)) → map (λ (row : Row). cell_at at row.1) (of_name a (map item_seen items)) ≡ map seen (map (kept_at at) (cells_of a items))
group_seen a at [] = refl
group_seen a at (item ∷ items) =
    elim (bytes_eq item.0 a) as (λ b. map (λ (row : Row). cell_at at row.1) (cond b (item_seen item ∷ of_name a (map item_seen items)) (of_name a (map item_seen items))) ≡ map seen (map (kept_at at) (map (λ (item : List ℕ × KeptCells). item.1) (cond b (item ∷ filter (λ (item : List ℕ × KeptCells). bytes_eq item.0 a) items) (filter (λ (item : List ℕ × KeptCells). bytes_eq item.0 a) items))))) [
      | true ↦ (λ i. seen_at item.1 at i ∷ group_seen a at items i)
      | false ↦ group_seen a at items
    ]

pub map-twice : {A B C : Type 0} (g : B → C) (f : A → B) (xs : List A) → map g (map f xs) ≡ map (λ x. g (f x)) xs
map-twice g f [] = refl
map-twice g f (x ∷ xs) = λ i. g (f x) ∷ map-twice g f xs i

module _ (rows : List CellRow) (fit : (at : ℕ) → Fit (column_entries at (map row_seen rows))) where
  abbrev all_items : List (List ℕ × KeptCells)
  all_items = flat_map kept_given rows

  fit_group : (a : List ℕ) (at : ℕ) → Fit (entries_of (map seen (map (kept_at at) (cells_of a all_items))))
  fit_group a at =
      let same : column at (of_name a (flat_map given (map row_seen rows))) ≡ entries_of (map seen (map (kept_at at) (cells_of a all_items))) =
      ap (λ (t : List Row). column at (of_name a t)) (sym (items_seen rows)) ∙ ap entries_of (group_seen a at all_items) in
      subst Fit same (fit_part (column at (of_name a (flat_map given (map row_seen rows)))) (column_entries at (map row_seen rows)) (part_rows a at (map row_seen rows)) (fit at))

  group_adds : (a : List ℕ) (at : ℕ) → EachFits [] (all_entries (map (kept_at at) (cells_of a all_items)))
  group_adds a at = can_add_cells (map (kept_at at) (cells_of a all_items)) (fit_group a at)

  all_add : (names : List (List ℕ)) → ColumnsAdd (map (λ a. (a, cells_of a all_items)) names)
  all_add [] = tt
  all_add (a ∷ names) = (group_adds a, all_add names)

  pub groups_add : ColumnsAdd (grouped (flat_map kept_given rows))
  groups_add = subst ColumnsAdd (sym (grouped-is all_items)) (all_add (each_once account_cmp (map (λ (item : List ℕ × KeptCells). item.0) all_items)))

  module _ (columns : ℕ) where
    sums_seen : (a : List ℕ) → map seen (group_sums columns (cells_of a all_items)) ≡ column_sums columns (of_name a (map item_seen all_items))
    sums_seen a =
        map-twice seen (λ at. added_all [] (all_entries (map (kept_at at) (cells_of a all_items)))) (range_with_len 0 columns)
        ∙ (λ i. map (λ at. (cells_sum (map (kept_at at) (cells_of a all_items)) (fit_group a at) ∙ ap summed (sym (group_seen a at all_items))) i) (range_with_len 0 columns))

    rows_seen : (names : List (List ℕ)) → map row_seen (map (group_row columns) (map (λ a. (a, cells_of a all_items)) names)) ≡ map (λ a. (a, column_sums columns (of_name a (map item_seen all_items)))) names
    rows_seen [] = refl
    rows_seen (a ∷ names) = λ i. (a, sums_seen a i) ∷ rows_seen names i

    pub tree_is : map row_seen (map (group_row columns) (grouped (flat_map kept_given rows))) ≡ tree columns (map row_seen rows)
    tree_is =
        ap (λ (groups : Groups). map row_seen (map (group_row columns) groups)) (grouped-is all_items)
        ∙ rows_seen (each_once account_cmp (map (λ (item : List ℕ × KeptCells). item.0) all_items))
        ∙ ap (λ (names : List (List ℕ)). map (λ a. (a, column_sums columns (of_name a (map item_seen all_items)))) (each_once account_cmp names)) (sym (names_seen all_items))
        ∙ ap (joined columns) (items_seen rows)
