-- The rows of a tree that have no parent sum to what all rows do.
use Rattle.std.proofs.Common.{◌≡◌, ℕ, zero, suc, ℤ, pos, negsuc, ◌+◌, ◌<◌, ◌≤◌, ◌==◌, ◌+ℤ◌, unsigned_abs, Bool, true, false, ◌&&◌, ◌||◌, not, cond, T, List, [], ◌∷◌, ◌++◌, length, map, filter, take, get_or, Option, Some, None, unwrap_or, inl, inr, refl, sym, ap, subst, ◌∙◌, append-nil, add-one, arith}
use Rattle.std.specs.List.{AllByRecursion, flat_map, list_any, range_with_len}
use Rattle.std.specs.Ordering.{eq_by_cmp, is_eq, nat_cmp}
use Rattle.std.specs.Cmp.Lexicographic.{slice_cmp, nat_list_cmp_total}
use Rattle.std.specs.FinMap.Entries.{below_all, find, is_sorted, same_entries}
use Rattle.std.specs.Str.{bytes_eq}
use Rattle.std.proofs.lemmas.Bool.{eqb-true, false≢true}
use Rattle.std.proofs.lemmas.Int.{ints}
use Rattle.std.proofs.lemmas.List.{map-append}
use Rattle.std.proofs.lemmas.List.Elements.{filter-append}
use Rattle.std.proofs.lemmas.List.FromFn.{get_or-map-range_with_len}
use Rattle.std.proofs.Math.IntN.{+ℤ_idl, +ℤ_idr}
use Rattle.book.specs.Accounts.{account_cmp}
use Rattle.book.specs.Order.{each_once}
use Rattle.book.specs.Sums.{is_nonzero}
use Rattle.book.proofs.Accounts.{account_ties, account_total}
use Rattle.book.proofs.Entries.{text_ties, tie-bytes_eq}
use Rattle.book.proofs.Order.{contains-each_once, find-passing, is_equal, passing, sorted-each_once, sorted-filter}
use Rattle.book.proofs.Places.{first, second, less}
use Rattle.report_cells.specs.Report.{Sums}
use Rattle.balance_rows.specs.Rows.{Row, cell_at}
use Rattle.balance_rows.specs.Sums.{entries_of, mixed_of, share, sum_of, summed, symbols_of}
use Rattle.balance_rows.specs.Trees.{column_sums, given, is_colon_at, has_parent, joined, lineage, of_name, roots, tree}
use Rattle.balance_rows.proofs.Deciding.{text_cmp}
use Rattle.balance_rows.proofs.Entries.{sum_of-append}
use Rattle.balance_rows.proofs.Final.{there_or_zero}
use Rattle.balance_rows.proofs.GroupsLaws.{tie-account}
use Rattle.balance_rows.proofs.Holding.{alike, bytes_eq-itself}
use Rattle.balance_rows.proofs.TreesLaws.{column}
use Rattle.balance_rows.proofs.Walking.{own}

-- ---- sums are determined by what each symbol sums to

find-mixed : (es : Sums) (q : List ℕ) → find text_cmp q (mixed_of es) ≡ passing is_nonzero (sum_of q es)
find-mixed es q =
    find-passing text_ties (λ (symbol : List ℕ). sum_of symbol es) is_nonzero (symbols_of es) q
    ∙ ap (λ (b : Bool). cond b (passing is_nonzero (sum_of q es)) None) (contains-each_once text_ties (map (λ (e : List ℕ × ℤ). e.0) es) q)
    ∙ there_or_zero q es _ refl

sorted-mixed : (es : Sums) → T (is_sorted text_cmp (mixed_of es))
sorted-mixed es =
    sorted-filter text_cmp (λ (sum : List ℕ × ℤ). is_nonzero sum.1) (map (λ (symbol : List ℕ). (symbol, sum_of symbol es)) (symbols_of es))
    (sorted-each_once text_ties (λ (symbol : List ℕ). sum_of symbol es) nat_list_cmp_total (map (λ (e : List ℕ × ℤ). e.0) es))

pub mixed_same : (a b : Sums) → ((q : List ℕ) → sum_of q a ≡ sum_of q b) → mixed_of a ≡ mixed_of b
mixed_same a b same =
    same_entries text_cmp nat_list_cmp_total text_ties (mixed_of a) (mixed_of b) (sorted-mixed a) (sorted-mixed b)
    (λ q. find-mixed a q ∙ ap (passing is_nonzero) (same q) ∙ sym (find-mixed b q))

-- the sum in a symbol is what stands there
sum_found : (q : List ℕ) (es : Sums) → T (is_sorted text_cmp es) → sum_of q es ≡ unwrap_or (find text_cmp q es) (pos 0)
sum_found q [] h = refl
sum_found q (e ∷ es) h =
    elim (eq_by_cmp text_cmp q e.0) as (λ b. eq_by_cmp text_cmp q e.0 ≡ b → sum_of q (e ∷ es) ≡ unwrap_or (cond b (Some e.1) (find text_cmp q es)) (pos 0)) [
      | true ↦ λ k. ap (λ (x : List ℕ). sum_of x (e ∷ es)) (text_ties q e.0 (is_equal _ k)) ∙ own e es (first _ _ h)
      | false ↦ λ k. ap (λ (z : ℤ). z +ℤ sum_of q es) (ap (λ (b : Bool). cond b e.1 (pos 0)) (sym (tie-bytes_eq q e.0) ∙ k)) ∙ +ℤ_idl (sum_of q es) ∙ sum_found q es (second _ _ h)
    ] refl

or_zero : (z : ℤ) → unwrap_or (passing is_nonzero z) (pos 0) ≡ z
or_zero (pos zero) = refl
or_zero (pos (suc n)) = by (suc n == 0) refl
  where
    by : (b : Bool) → (suc n == 0) ≡ b → unwrap_or (cond (not b) (Some (pos (suc n))) None) (pos 0) ≡ pos (suc n)
    by true e = absurd (omega (arith, eqb-true (suc n) 0 e))
    by false e = refl
or_zero (negsuc n) = by (unsigned_abs (negsuc n) == 0) refl
  where
    by : (b : Bool) → (unsigned_abs (negsuc n) == 0) ≡ b → unwrap_or (cond (not b) (Some (negsuc n)) None) (pos 0) ≡ negsuc n
    by true e = absurd (omega (arith, eqb-true (unsigned_abs (negsuc n)) 0 e))
    by false e = refl

sum_of-mixed : (q : List ℕ) (es : Sums) → sum_of q (mixed_of es) ≡ sum_of q es
sum_of-mixed q es =
    sum_found q (mixed_of es) (sorted-mixed es) ∙ ap (λ (o : Option ℤ). unwrap_or o (pos 0)) (find-mixed es q) ∙ or_zero (sum_of q es)

-- ---- one of the accounts that a row counts for has no parent

-- the names that have no parent
abbrev tops : List (List ℕ) → List (List ℕ)
tops names = filter (λ (name : List ℕ). not (has_parent name)) names

abbrev after : ℕ → List (List ℕ) → List (List ℕ)
after b names = map (λ (name : List ℕ). b ∷ name) names

-- fronts up to the colons from a place on
abbrev fronts : List ℕ → ℕ → ℕ → List (List ℕ)
fronts name low n = map (λ at. take at name) (filter (is_colon_at name) (range_with_len low n))

fronts-after : (b : ℕ) (name : List ℕ) (low further n : ℕ) → further ≡ suc low → fronts (b ∷ name) further n ≡ after b (fronts name low n)
fronts-after b name low further zero e = refl
fronts-after b name low further (suc n) e =
    let rest : fronts (b ∷ name) (further + 1) n ≡ after b (fronts name (low + 1) n) = fronts-after b name (low + 1) (further + 1) n (omega (arith, e)) in
    subst (λ (k : ℕ). map (λ at. take at (b ∷ name)) (cond (is_colon_at (b ∷ name) k) (k ∷ filter (is_colon_at (b ∷ name)) (range_with_len (further + 1) n)) (filter (is_colon_at (b ∷ name)) (range_with_len (further + 1) n))) ≡ after b (fronts name low (suc n))) (sym e)
    (elim (is_colon_at name low) as (λ c. map (λ at. take at (b ∷ name)) (cond c (suc low ∷ filter (is_colon_at (b ∷ name)) (range_with_len (further + 1) n)) (filter (is_colon_at (b ∷ name)) (range_with_len (further + 1) n))) ≡ after b (map (λ at. take at name) (cond c (low ∷ filter (is_colon_at name) (range_with_len (low + 1) n)) (filter (is_colon_at name) (range_with_len (low + 1) n))))) [
      | true ↦ ap (λ (t : List (List ℕ)). (b ∷ take low name) ∷ t) rest
      | false ↦ rest
    ])

lineage-cons : (b : ℕ) (name : List ℕ) → lineage (b ∷ name) ≡ cond (b == 58) ([] ∷ []) [] ++ after b (lineage name)
lineage-cons b name =
    let rest : fronts (b ∷ name) 1 (length name) ≡ after b (fronts name 0 (length name)) = fronts-after b name 0 1 (length name) refl in
    let more : fronts (b ∷ name) 1 (length name) ++ (b ∷ name) ∷ [] ≡ after b (lineage name) =
    ap (λ (t : List (List ℕ)). t ++ (b ∷ name) ∷ []) rest ∙ sym (map-append (λ (x : List ℕ). b ∷ x) (fronts name 0 (length name)) (name ∷ [])) in
    elim (b == 58) as (λ c. map (λ at. take at (b ∷ name)) (cond c (0 ∷ filter (is_colon_at (b ∷ name)) (range_with_len 1 (length name))) (filter (is_colon_at (b ∷ name)) (range_with_len 1 (length name)))) ++ (b ∷ name) ∷ [] ≡ cond c ([] ∷ []) [] ++ after b (lineage name)) [
      | true ↦ ap (λ (t : List (List ℕ)). [] ∷ t) more
      | false ↦ more
    ]

none_at_top : (b : ℕ) (names : List (List ℕ)) → (b == 58) ≡ true → tops (after b names) ≡ []
none_at_top b [] e = refl
none_at_top b (name ∷ names) e =
    ap (λ (c : Bool). cond (not (c || has_parent name)) ((b ∷ name) ∷ tops (after b names)) (tops (after b names))) e ∙ none_at_top b names e

same_tops : (b : ℕ) (names : List (List ℕ)) → (b == 58) ≡ false → tops (after b names) ≡ after b (tops names)
same_tops b [] e = refl
same_tops b (name ∷ names) e =
    ap (λ (c : Bool). cond (not (c || has_parent name)) ((b ∷ name) ∷ tops (after b names)) (tops (after b names))) e
    ∙ (elim (has_parent name) as (λ t. cond (not t) ((b ∷ name) ∷ tops (after b names)) (tops (after b names)) ≡ after b (cond (not t) (name ∷ tops names) (tops names))) [
      | true ↦ same_tops b names e
      | false ↦ ap (λ (t : List (List ℕ)). (b ∷ name) ∷ t) (same_tops b names e)
    ])

record HasTop (name : List ℕ) : Type 0 where
  top : List ℕ
  is : tops (lineage name) ≡ top ∷ []

one_top : (name : List ℕ) → HasTop name
one_top [] = record { top = []; is = refl }
one_top (b ∷ name) =
    let below = one_top name in
    elim (b == 58) as (λ c. (b == 58) ≡ c → HasTop (b ∷ name)) [
      | true ↦ λ e. record {
        top = [];
        is = ap tops (lineage-cons b name ∙ ap (λ (c : Bool). cond c ([] ∷ []) [] ++ after b (lineage name)) e)
            ∙ ap (λ (t : List (List ℕ)). [] ∷ t) (none_at_top b (lineage name) e);
      }
      | false ↦ λ e. record {
        top = b ∷ below.top;
        is = ap tops (lineage-cons b name ∙ ap (λ (c : Bool). cond c ([] ∷ []) [] ++ after b (lineage name)) e)
            ∙ same_tops b (lineage name) e ∙ ap (after b) below.is;
      }
    ] refl

-- ---- the rows of roots

rooted : (cells : List ℕ → List Sums) (names : List (List ℕ)) → roots (map (λ (x : List ℕ). (x, cells x)) names) ≡ map (λ (x : List ℕ). (x, cells x)) (tops names)
rooted cells [] = refl
rooted cells (x ∷ names) =
    elim (has_parent x) as (λ t. cond (not t) ((x, cells x) ∷ roots (map (λ (x : List ℕ). (x, cells x)) names)) (roots (map (λ (x : List ℕ). (x, cells x)) names)) ≡ map (λ (x : List ℕ). (x, cells x)) (cond (not t) (x ∷ tops names) (tops names))) [
      | true ↦ rooted cells names
      | false ↦ ap (λ (t : List Row). (x, cells x) ∷ t) (rooted cells names)
    ]

module _ (at : ℕ) (q : List ℕ) where
  -- what a row has in the column
  abbrev value : Row → ℤ
  value row = sum_of q (cell_at at row.1)

  column-cons : (row : Row) (rows : List Row) → sum_of q (column at (row ∷ rows)) ≡ value row +ℤ sum_of q (column at rows)
  column-cons row rows = sum_of-append q (cell_at at row.1) (column at rows)

  column-join : (a b : List Row) → sum_of q (column at (a ++ b)) ≡ sum_of q (column at a) +ℤ sum_of q (column at b)
  column-join [] b = sym (+ℤ_idl (sum_of q (column at b)))
  column-join (row ∷ a) b =
      let left = column-cons row (a ++ b) in
      let right = column-cons row a in
      let rest = column-join a b in
      omega (arith, ints, left, right, rest)

  one_root : (row : Row) → sum_of q (column at (roots (given row))) ≡ value row
  one_root row =
      let has = one_top row.0 in
      ap (λ (rows : List Row). sum_of q (column at rows)) (rooted (λ (x : List ℕ). row.1) (lineage row.0) ∙ ap (map (λ (x : List ℕ). (x, row.1))) has.is)
      ∙ ap (sum_of q) (append-nil (cell_at at row.1))

  -- the roots among what is given sum to the rows
  all_roots : (rows : List Row) → sum_of q (column at (roots (flat_map given rows))) ≡ sum_of q (column at rows)
  all_roots [] = refl
  all_roots (row ∷ rows) =
      ap (λ (t : List Row). sum_of q (column at t)) (filter-append (λ (r : Row). not (has_parent r.0)) (given row) (flat_map given rows))
      ∙ column-join (roots (given row)) (roots (flat_map given rows))
      ∙ (λ i. one_root row i +ℤ all_roots rows i)
      ∙ sym (column-cons row rows)

  -- ---- grouped by names

  -- the sum over some names of what their rows have
  abbrev by_names : List (List ℕ) → List Row → ℤ
  by_names [] rows = pos 0
  by_names (name ∷ names) rows = sum_of q (column at (of_name name rows)) +ℤ by_names names rows

  -- how often a value counts
  abbrev counted : List (List ℕ) → List ℕ → ℤ → ℤ
  counted [] name z = pos 0
  counted (x ∷ names) name z = cond (bytes_eq name x) z (pos 0) +ℤ counted names name z

  no_rows : (names : List (List ℕ)) → by_names names [] ≡ pos 0
  no_rows [] = refl
  no_rows (name ∷ names) = +ℤ_idl (by_names names []) ∙ no_rows names

  of_name-cons : (name : List ℕ) (row : Row) (rows : List Row) → sum_of q (column at (of_name name (row ∷ rows))) ≡ cond (bytes_eq row.0 name) (value row) (pos 0) +ℤ sum_of q (column at (of_name name rows))
  of_name-cons name row rows =
      elim (bytes_eq row.0 name) as (λ b. sum_of q (column at (cond b (row ∷ of_name name rows) (of_name name rows))) ≡ cond b (value row) (pos 0) +ℤ sum_of q (column at (of_name name rows))) [
        | true ↦ column-cons row (of_name name rows)
        | false ↦ sym (+ℤ_idl (sum_of q (column at (of_name name rows))))
      ]

  by_names-cons : (names : List (List ℕ)) (row : Row) (rows : List Row) → by_names names (row ∷ rows) ≡ counted names row.0 (value row) +ℤ by_names names rows
  by_names-cons [] row rows = refl
  by_names-cons (name ∷ names) row rows =
      let here = of_name-cons name row rows in
      let rest = by_names-cons names row rows in
      omega (arith, ints, here, rest)

  abbrev is_in : List ℕ → List (List ℕ) → Bool
  is_in name names = list_any (eq_by_cmp account_cmp name) names

  abbrev named_pairs : List (List ℕ) → List (List ℕ × List ℕ)
  named_pairs names = map (λ (x : List ℕ). (x, x)) names

  counted-none : (names : List (List ℕ)) (name : List ℕ) (z : ℤ) → is_in name names ≡ false → counted names name z ≡ pos 0
  counted-none [] name z h = refl
  counted-none (x ∷ names) name z h =
      elim (alike name x) [
        | inl same ↦ absurd (false≢true (sym h ∙ ap (λ (b : Bool). b || is_in name names) (subst (λ (y : List ℕ). eq_by_cmp account_cmp name y ≡ true) same (tie-account name name ∙ bytes_eq-itself name))))
        | inr differ ↦
            ap (λ (b : Bool). cond b z (pos 0) +ℤ counted names name z) differ ∙ +ℤ_idl (counted names name z)
            ∙ counted-none names name z (later (eq_by_cmp account_cmp name x) (is_in name names) h)
      ]
    where
      later : (a b : Bool) → (a || b) ≡ false → b ≡ false
      later true b k = absurd (false≢true (sym k))
      later false b k = k

  -- names that are all above one don't hold it
  not_above : (name : List ℕ) (names : List (List ℕ)) → T (below_all account_cmp name (named_pairs names)) → is_in name names ≡ false
  not_above name [] h = refl
  not_above name (x ∷ names) h =
      let apart : eq_by_cmp account_cmp name x ≡ false = ap is_eq (less _ (first _ _ h)) in
      ap (λ (b : Bool). b || is_in name names) apart ∙ not_above name names (second _ _ h)

  counted-one : (names : List (List ℕ)) (name : List ℕ) (z : ℤ) → T (is_sorted account_cmp (named_pairs names)) → is_in name names ≡ true → counted names name z ≡ z
  counted-one [] name z h there = absurd (false≢true there)
  counted-one (x ∷ names) name z h there =
      elim (alike name x) [
        | inl same ↦
            let mine : bytes_eq name x ≡ true = subst (λ (y : List ℕ). bytes_eq name y ≡ true) same (bytes_eq-itself name) in
            let none : counted names name z ≡ pos 0 = counted-none names name z (subst (λ (y : List ℕ). is_in y names ≡ false) (sym same) (not_above x names (first _ _ h))) in
            ap (λ (b : Bool). cond b z (pos 0) +ℤ counted names name z) mine ∙ ap (λ (y : ℤ). z +ℤ y) none ∙ +ℤ_idr z
        | inr differ ↦
            ap (λ (b : Bool). cond b z (pos 0) +ℤ counted names name z) differ ∙ +ℤ_idl (counted names name z)
            ∙ counted-one names name z (second _ _ h) (ap (λ (b : Bool). b || is_in name names) (sym (tie-account name x ∙ sym_bytes differ)) ∙ there)
      ]
    where
      sym_bytes : bytes_eq name x ≡ false → bytes_eq x name ≡ false
      sym_bytes differ = elim (alike x name) [
        | inl same ↦ absurd (false≢true (sym differ ∙ subst (λ (y : List ℕ). bytes_eq y x ≡ true) same (bytes_eq-itself x)))
        | inr other ↦ other
      ]

  -- no row of a name with a parent is among the names without
  abbrev AreTops : List (List ℕ) → List Row → Type 0
  AreTops names rows = AllByRecursion (λ (row : Row). is_in row.0 names ≡ not (has_parent row.0)) rows

  grouped_roots : (names : List (List ℕ)) (rows : List Row) → T (is_sorted account_cmp (named_pairs names)) → AreTops names rows → by_names names rows ≡ sum_of q (column at (roots rows))
  grouped_roots names [] h tops = no_rows names
  grouped_roots names (row ∷ rows) h tops =
      by_names-cons names row rows ∙ ap (λ (z : ℤ). counted names row.0 (value row) +ℤ z) (grouped_roots names rows h tops.1)
      ∙ (elim (has_parent row.0) as (λ b. is_in row.0 names ≡ not b → counted names row.0 (value row) +ℤ sum_of q (column at (roots rows)) ≡ sum_of q (column at (cond (not b) (row ∷ roots rows) (roots rows)))) [
        | true ↦ λ e. ap (λ (z : ℤ). z +ℤ sum_of q (column at (roots rows))) (counted-none names row.0 (value row) e) ∙ +ℤ_idl (sum_of q (column at (roots rows)))
        | false ↦ λ e. ap (λ (z : ℤ). z +ℤ sum_of q (column at (roots rows))) (counted-one names row.0 (value row) h e) ∙ sym (column-cons row (roots rows))
      ] tops.0)

-- ---- the names of the roots, in their order

tops-pairs : (names : List (List ℕ)) → map (λ (x : List ℕ). (x, x)) (tops names) ≡ filter (λ (e : List ℕ × List ℕ). not (has_parent e.1)) (map (λ (x : List ℕ). (x, x)) names)
tops-pairs [] = refl
tops-pairs (x ∷ names) =
    elim (has_parent x) as (λ t. map (λ (x : List ℕ). (x, x)) (cond (not t) (x ∷ tops names) (tops names)) ≡ cond (not t) ((x, x) ∷ filter (λ (e : List ℕ × List ℕ). not (has_parent e.1)) (map (λ (x : List ℕ). (x, x)) names)) (filter (λ (e : List ℕ × List ℕ). not (has_parent e.1)) (map (λ (x : List ℕ). (x, x)) names))) [
      | true ↦ tops-pairs names
      | false ↦ ap (λ (t : List (List ℕ × List ℕ)). (x, x) ∷ t) (tops-pairs names)
    ]

tops-sorted : (names : List (List ℕ)) → T (is_sorted account_cmp (map (λ (x : List ℕ). (x, x)) (tops (each_once account_cmp names))))
tops-sorted names =
    subst (λ (es : List (List ℕ × List ℕ)). T (is_sorted account_cmp es)) (sym (tops-pairs (each_once account_cmp names)))
    (sorted-filter account_cmp (λ (e : List ℕ × List ℕ). not (has_parent e.1)) (map (λ (x : List ℕ). (x, x)) (each_once account_cmp names))
    (sorted-each_once account_ties (λ (x : List ℕ). x) account_total names))

abbrev among : List ℕ → List (List ℕ) → Bool
among name names = list_any (eq_by_cmp account_cmp name) names

among-tops : (name : List ℕ) (names : List (List ℕ)) → among name (tops names) ≡ (among name names && not (has_parent name))
among-tops name [] = refl
among-tops name (x ∷ names) =
    elim (eq_by_cmp account_cmp name x) as (λ b. eq_by_cmp account_cmp name x ≡ b → among name (cond (not (has_parent x)) (x ∷ tops names) (tops names)) ≡ ((b || among name names) && not (has_parent name))) [
      | true ↦ λ e.
          let same : name ≡ x = account_ties name x (is_equal _ e) in
          elim (has_parent x) as (λ t. has_parent x ≡ t → among name (cond (not t) (x ∷ tops names) (tops names)) ≡ not (has_parent name)) [
            | true ↦ λ p. among-tops name names ∙ ap (λ (t : Bool). among name names && not t) (ap has_parent same ∙ p) ∙ never (among name names) ∙ sym (ap not (ap has_parent same ∙ p))
            | false ↦ λ p. ap (λ (b : Bool). b || among name (tops names)) e ∙ sym (ap not (ap has_parent same ∙ p))
          ] refl
      | false ↦ λ e.
          elim (has_parent x) as (λ t. among name (cond (not t) (x ∷ tops names) (tops names)) ≡ (among name names && not (has_parent name))) [
            | true ↦ among-tops name names
            | false ↦ ap (λ (b : Bool). b || among name (tops names)) e ∙ among-tops name names
          ]
    ] refl
  where
    never : (b : Bool) → (b && false) ≡ false
    never true = refl
    never false = refl

module _ (rows : List Row) where
  -- each row of these is one of their names
  row_among : (name : List ℕ) → among name (map (λ (row : Row). row.0) rows) ≡ true → among name (tops (each_once account_cmp (map (λ (row : Row). row.0) rows))) ≡ not (has_parent name)
  row_among name there =
      among-tops name (each_once account_cmp (map (λ (row : Row). row.0) rows))
      ∙ ap (λ (b : Bool). b && not (has_parent name)) (contains-each_once account_ties (map (λ (row : Row). row.0) rows) name ∙ there)

all-among : (rows : List Row) (names : List (List ℕ)) → ((name : List ℕ) → among name (map (λ (row : Row). row.0) rows) ≡ true → among name names ≡ not (has_parent name)) → AllByRecursion (λ (row : Row). among row.0 names ≡ not (has_parent row.0)) rows
all-among [] names h = tt
all-among (row ∷ rows) names h = (
  h row.0 (ap (λ (b : Bool). b || among row.0 (map (λ (row : Row). row.0) rows)) (tie-account row.0 row.0 ∙ bytes_eq-itself row.0)),
  all-among rows names (λ name there. h name (either (eq_by_cmp account_cmp name row.0) (among name (map (λ (row : Row). row.0) rows)) there)),
)
  where
    either : (a b : Bool) → b ≡ true → (a || b) ≡ true
    either true b k = refl
    either false b k = k

-- ---- the columns of the roots

module _ (columns at : ℕ) (within : at < columns) (q : List ℕ) (rows : List Row) where
  column_sum : (name : List ℕ) → sum_of q (cell_at at (column_sums columns (of_name name rows))) ≡ sum_of q (column at (of_name name rows))
  column_sum name =
      ap (sum_of q) (get_or-map-range_with_len (λ (k : ℕ). summed (map (λ (row : Row). cell_at k row.1) (of_name name rows))) 0 columns at at [] within (omega arith))
      ∙ sum_of-mixed q (column at (of_name name rows))

  joined_sum : (names : List (List ℕ)) → sum_of q (column at (map (λ (name : List ℕ). (name, column_sums columns (of_name name rows))) names)) ≡ by_names at q names rows
  joined_sum [] = refl
  joined_sum (name ∷ names) =
      column-cons at q (name, column_sums columns (of_name name rows)) (map (λ (name : List ℕ). (name, column_sums columns (of_name name rows))) names)
      ∙ (λ i. column_sum name i +ℤ joined_sum names i)

  roots_sum : sum_of q (column at (roots (joined columns rows))) ≡ sum_of q (column at (roots rows))
  roots_sum =
      let names = each_once account_cmp (map (λ (row : Row). row.0) rows) in
      ap (λ (t : List Row). sum_of q (column at t)) (rooted (λ (name : List ℕ). column_sums columns (of_name name rows)) names)
      ∙ joined_sum (tops names)
      ∙ grouped_roots at q (tops names) rows (tops-sorted (map (λ (row : Row). row.0) rows)) (all-among rows (tops names) (row_among rows))

map_range : {A : Type 0} (f g : ℕ → A) (a n : ℕ) → ((k : ℕ) → k < a + n → f k ≡ g k) → map f (range_with_len a n) ≡ map g (range_with_len a n)
map_range f g a zero same = refl
map_range f g a (suc n) same = λ i. same a (omega arith) i ∷ map_range f g (a + 1) n (λ k lt. same k (omega arith)) i

-- The rows of a tree that have no parent have the totals of all rows.
pub tree_totals : (columns : ℕ) (rows : List Row) → column_sums columns (roots (tree columns rows)) ≡ column_sums columns rows
tree_totals columns rows =
    map_range (λ (k : ℕ). summed (map (λ (row : Row). cell_at k row.1) (roots (tree columns rows)))) (λ (k : ℕ). summed (map (λ (row : Row). cell_at k row.1) rows)) 0 columns
    (λ k lt. mixed_same (column k (roots (tree columns rows))) (column k rows)
    (λ q. roots_sum columns k (omega (arith, lt)) q (flat_map given rows) ∙ all_roots k q rows))
