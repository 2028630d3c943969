-- Rows that hold the kept sums, and their totals, are those of the takings.
use Rattle.std.proofs.Common.{◌≡◌, ℕ, ℤ, zero, suc, pos, ◌+◌, ◌-◌, ◌*◌, ◌^◌, ◌<◌, ◌≤◌, max, min, ◌+ℤ◌, unsigned_abs, Bool, true, false, cond, ◌&&◌, ◌||◌, nat_le, nat_lt, List, [], ◌∷◌, ◌++◌, length, map, filter, find, Some, None, inl, inr, refl, sym, ap, subst, ◌∙◌, lit<, add-one, length-append, arith}
use Rattle.std.specs.List.{list_any, AllByRecursion}
use Rattle.std.specs.Str.{bytes_eq}
use Rattle.std.proofs.lemmas.Bool.{false≢true, or_parts}
use Rattle.std.proofs.lemmas.Bool.Decides.{nat_tests}
use Rattle.std.proofs.lemmas.Int.{ints}
use Rattle.std.proofs.Math.Nat.{pow-le-pow_right, mul-le-mul_left}
use Rattle.hl_time.specs.Split.{part_at}
use Rattle.hl_time.specs.declared.spans.Span.{Span}
use Rattle.live_index.specs.Standing.{standing}
use Rattle.balance_rows.specs.Rows.{Row, has_sums, is_shown, shown_rows}
use Rattle.report_cells.specs.Bounds.{turnover_in, places_in, is_out, first_out}
use Rattle.report_cells.specs.Kept.{Cell, cell_at, column_of, merged, merged_each, column_totals, EachFits}
use Rattle.report_cells.specs.Report.{cell, counts, row_seen, rows_in, seen, totals_in}
use Rattle.report_cells.specs.Taken.{Taken, mixed_in, sum_in, symbols_in}
use Rattle.report_cells.specs.declared.cells.CellRow.{CellRow}
use Rattle.report_cells.specs.declared.cells.Cells.{Cells}
use Rattle.report_cells.specs.declared.reach.Reach.{Reach}
use Rattle.report_cells.specs.declared.reach.Reach.TheVariants.{Within, UpTo}
use Rattle.report_cells.proofs.Choosing.{chosen, chosen-le, chosen-none, chosen-same, apart-le, joined-is}
use Rattle.report_cells.proofs.Ending.{mapped_alike, seen_is}
use Rattle.report_cells.proofs.Holding.{Holds, alike, bytes_eq-itself, holds_none, told}
use Rattle.report_cells.proofs.Joining.{merge_both}
use Rattle.index_cells.specs.Days.{counted, holds}
use Rattle.index_cells.specs.Held.{HoldsSums, HoldsRow, HoldsRows, most_of, summed_in}
use Rattle.index_cells.specs.Keys.{is_in, EachOnce}
use Rattle.index_cells.specs.Over.{sum_over}
use Rattle.index_cells.specs.Shown.{ShowSumsOf}
use Rattle.index_cells.specs.Tells.{is_of, is_on, taken_on, Tells}
use Rattle.index_cells.specs.declared.kept.Kept.{Kept}
use Rattle.index_cells.proofs.Naming.{names_are, none_kept, once_in_order}
use Rattle.index_cells.proofs.Summing.{holds_of}

-- ---- takings that pass a test

filter-both : (p r : Taken → Bool) (ts : List Taken) → filter p (filter r ts) ≡ filter (λ t. r t && p t) ts
filter-both p r [] = refl
filter-both p r (t ∷ ts) =
    elim (r t) as (λ b. filter p (cond b (t ∷ filter r ts) (filter r ts)) ≡ cond (b && p t) (t ∷ filter (λ t. r t && p t) ts) (filter (λ t. r t && p t) ts)) [
      | true ↦ ap (λ (rest : List Taken). cond (p t) (t ∷ rest) rest) (filter-both p r ts)
      | false ↦ filter-both p r ts
    ]

kept_turnover : (q : List ℕ) (p : Taken → Bool) (ts : List Taken) → turnover_in q (filter p ts) ≤ turnover_in q ts
kept_turnover q p [] = omega arith
kept_turnover q p (t ∷ ts) =
    let rest = kept_turnover q p ts in
    elim (p t) as (λ b. turnover_in q (cond b (t ∷ filter p ts) (filter p ts)) ≤ turnover_in q (t ∷ ts)) [ true ↦ omega (arith, rest) | false ↦ omega (arith, rest) ]

kept_places : (q : List ℕ) (p : Taken → Bool) (ts : List Taken) → places_in q (filter p ts) ≤ places_in q ts
kept_places q p [] = omega arith
kept_places q p (t ∷ ts) =
    let rest = kept_places q p ts in
    elim (p t) as (λ b. places_in q (cond b (t ∷ filter p ts) (filter p ts)) ≤ places_in q (t ∷ ts)) [ true ↦ omega (arith, rest) | false ↦ omega (arith, rest) ]

bound_falls : (a b : ℕ) → a ≤ b → 2 ^ 127 * 10 ^ (36 - b) ≤ 2 ^ 127 * 10 ^ (36 - a)
bound_falls a b le =
    let powers : 10 ^ (36 - b) ≤ 10 ^ (36 - a) = pow-le-pow_right {n = 10} (lit< tt) (omega (arith, le)) in
    mul-le-mul_left (2 ^ 127) powers

-- ---- days

same_days : (m : Bool) (from end lower upper day : ℕ) → ((nat_le from day && nat_lt day end) && (m && (nat_le lower day && nat_lt day upper))) ≡ (m && (nat_le (max from lower) day && nat_lt day (min end upper)))
same_days false from end lower upper day = neither (nat_le from day && nat_lt day end)
  where
    neither : (b : Bool) → (b && false) ≡ false
    neither true = refl
    neither false = refl
same_days true from end lower upper day = grind (arith, nat_tests)

same_until : (m : Bool) (from end upper day : ℕ) → ((nat_le from day && nat_lt day end) && (m && nat_lt day upper)) ≡ (m && (nat_le from day && nat_lt day (min end upper)))
same_until false from end upper day = neither (nat_le from day && nat_lt day end)
  where
    neither : (b : Bool) → (b && false) ≡ false
    neither true = refl
    neither false = refl
same_until true from end upper day = grind (arith, nat_tests)

counts_days : (m : Bool) (reach : Reach) (days column : Span) (t : Taken) → (holds days t.day && (m && counts reach column t)) ≡ (m && holds (counted reach days column) t.day)
counts_days m Within days column t = same_days m days.from days.end column.from column.end t.day
counts_days m UpTo days column t = same_until m days.from days.end column.end t.day

no_sum : (z : ℤ) (n : ℕ) → unsigned_abs z ≤ n → n ≡ 0 → z ≡ pos 0
no_sum z n le none = omega (arith, ints, le, none)

none_found : (p : List ℕ → Bool) (ks : List (List ℕ)) → ((k : List ℕ) → p k ≡ false) → find p ks ≡ None
none_found p [] none = refl
none_found p (k ∷ ks) none = ap (λ (b : Bool). cond b (Some k) (find p ks)) (none k) ∙ none_found p ks none

-- each taking is of one of the accounts
any_later : (p : Taken → Bool) (t : Taken) (ts : List Taken) → list_any p ts ≡ true → list_any p (t ∷ ts) ≡ true
any_later p t ts h = either_true (p t) (list_any p ts) h
  where
    either_true : (a b : Bool) → b ≡ true → (a || b) ≡ true
    either_true true b e = refl
    either_true false b e = e

own_first : (t : Taken) (ts : List Taken) → list_any (is_of t.account) (t ∷ ts) ≡ true
own_first t ts = ap (λ (b : Bool). b || list_any (is_of t.account) ts) (bytes_eq-itself t.account)

among : (found : List ℕ → Bool) (us : List Taken) → ((a : List ℕ) → list_any (is_of a) us ≡ true → found a ≡ true) → AllByRecursion (λ (t : Taken). found t.account ≡ true) us
among found [] h = tt
among found (u ∷ us) h = (h u.account (own_first u us), among found us (λ a e. h a (any_later (is_of a) u us e)))

-- ---- rows that are left out

none_filtered : (p r : Taken → Bool) (us : List Taken) → list_any p us ≡ false → filter (λ t. p t && r t) us ≡ []
none_filtered p r [] none = refl
none_filtered p r (u ∷ us) none =
    let parts = or_parts (p u) (list_any p us) none in
    ap (λ (b : Bool). cond (b && r u) (u ∷ filter (λ t. p t && r t) us) (filter (λ t. p t && r t) us)) parts.0 ∙ none_filtered p r us parts.1

-- what fails the first test makes what fails the second
skipped : (f : List ℕ → Row) (p : Row → Bool) (q : List ℕ → Bool) → ((x : List ℕ) → q x ≡ false → p (f x) ≡ false) → (xs : List (List ℕ)) → filter p (map f xs) ≡ filter p (map f (filter q xs))
skipped f p q none [] = refl
skipped f p q none (x ∷ xs) =
    elim (q x) as (λ b. q x ≡ b → cond (p (f x)) (f x ∷ filter p (map f xs)) (filter p (map f xs)) ≡ filter p (map f (cond b (x ∷ filter q xs) (filter q xs)))) [
      | true ↦ λ e. ap (λ (rest : List Row). cond (p (f x)) (f x ∷ rest) rest) (skipped f p q none xs)
      | false ↦ λ e. ap (λ (b : Bool). cond b (f x ∷ filter p (map f xs)) (filter p (map f xs))) (none x e) ∙ skipped f p q none xs
    ] refl

-- ---- rows

module _ (kept : Kept) (ts : List Taken) (h : Tells ts kept) (columns : List Span) (reach : Reach) (days : Span) where
  abbrev window : List Taken
  window = taken_on days ts

  abbrev most : List ℕ → ℕ
  most = most_of kept

  small : (q : List ℕ) → turnover_in q window < 2 ^ 127 * 10 ^ (36 - most q)
  small q = omega (arith, kept_turnover q (λ t. holds days t.day) ts, h.fits q, bound_falls (most q) (max (places_in q ts) (most q)) (omega arith))

  in_range : (q : List ℕ) → is_out window q ≡ false
  in_range q =
      let fewer = kept_places q (λ t. holds days t.day) ts in
      let bound = bound_falls (places_in q window) (max (places_in q ts) (most q)) (omega (arith, fewer)) in
      let under : turnover_in q window < 2 ^ 127 * 10 ^ (36 - places_in q window) = omega (arith, kept_turnover q (λ t. holds days t.day) ts, h.fits q, bound) in
      not_le (2 ^ 127 * 10 ^ (36 - places_in q window)) (turnover_in q window) under
    where
      not_le : (a b : ℕ) → b < a → nat_le a b ≡ false
      not_le a b lt = grind (arith, nat_tests, lt)

  pub none_out : first_out window ≡ None
  none_out = none_found (is_out window) (symbols_in window) in_range

  -- what is kept is what the takings sum to
  told_as : (account : List ℕ) (column : Span) (q : List ℕ) → sum_in q (filter (λ t. bytes_eq t.account account && counts reach column t) window) ≡ sum_in q (filter (is_on account (counted reach days column)) ts)
  told_as account column q =
      ap (sum_in q) (filter-both (λ t. bytes_eq t.account account && counts reach column t) (λ t. holds days t.day) ts
      ∙ chosen-same (λ t. holds days t.day && (bytes_eq t.account account && counts reach column t)) (is_on account (counted reach days column)) (λ t. counts_days (bytes_eq t.account account) reach days column t) ts)

  sum_is : (account : List ℕ) (column : Span) (q : List ℕ) (b : Bool) → is_in q kept.symbols ≡ b → summed_in kept reach days account column q ≡ sum_in q (filter (λ t. bytes_eq t.account account && counts reach column t) window)
  sum_is account column q true e =
      ap (λ (b : Bool). cond b (sum_over (standing kept.sums) account q (counted reach days column)) (pos 0)) e ∙ h.sums account q (counted reach days column) ∙ sym (told_as account column q)
  sum_is account column q false e =
      ap (λ (b : Bool). cond b (sum_over (standing kept.sums) account q (counted reach days column)) (pos 0)) e
      ∙ sym (told_as account column q ∙ no_sum (chosen (is_on account (counted reach days column)) q ts) (turnover_in q ts) (chosen-le q (is_on account (counted reach days column)) ts) (h.symbols q e))

  abbrev own : List ℕ → Span → Taken → Bool
  own account column t = bytes_eq t.account account && counts reach column t

  cell_holds : (account : List ℕ) (column : Span) (sums : Cell) → HoldsSums sums (summed_in kept reach days account column) most → Holds sums (λ q. chosen (own account column) q window) most
  cell_holds account column sums g =
      told sums (summed_in kept reach days account column) (λ q. chosen (own account column) q window) most (holds_of sums (summed_in kept reach days account column) most g)
      (λ q. sym (sum_is account column q (is_in q kept.symbols) refl))

  row_shows : (account : List ℕ) (cells : List Cell) (cs : List Span) → HoldsRow (summed_in kept reach days account) most cells cs → map seen cells ≡ map (λ column. cell reach window column account) cs
  row_shows account [] [] g = refl
  row_shows account [] (column ∷ cs) g = absurd g
  row_shows account (sums ∷ cells) [] g = absurd g
  row_shows account (sums ∷ cells) (column ∷ cs) g =
      let here : seen sums ≡ cell reach window column account = seen_is sums (filter (own account column) window) most (cell_holds account column sums g.0) in
      (λ i. here i ∷ row_shows account cells cs g.1 i)

  abbrev Rows : List CellRow → List (List ℕ) → Type 0
  Rows rows accounts = HoldsRows (summed_in kept reach days) most columns rows accounts

  rows_show : (rows : List CellRow) (accounts : List (List ℕ)) → Rows rows accounts → map row_seen rows ≡ map (λ account. (account, map (λ column. cell reach window column account) columns)) accounts
  rows_show [] [] g = refl
  rows_show [] (a ∷ accounts) g = absurd g
  rows_show (r ∷ rows) [] g = absurd g
  rows_show (r ∷ rows) (a ∷ accounts) g =
      (λ i. (g.0 i, row_shows a r.cells columns g.1.0 i) ∷ rows_show rows accounts g.1.1 i)

  -- ---- totals

  cell_of_row : (account : List ℕ) (cells : List Cell) (cs : List Span) (k : ℕ) → k < length cs → HoldsRow (summed_in kept reach days account) most cells cs → Holds (cell_at cells k) (λ q. chosen (own account (part_at cs k)) q window) most
  cell_of_row account [] [] k lt g = absurd (omega (arith, lt))
  cell_of_row account [] (column ∷ cs) k lt g = absurd g
  cell_of_row account (sums ∷ cells) [] k lt g = absurd g
  cell_of_row account (sums ∷ cells) (column ∷ cs) zero lt g = cell_holds account column sums g.0
  cell_of_row account (sums ∷ cells) (column ∷ cs) (suc k) lt g = cell_of_row account cells cs k (omega (arith, lt)) g.1

  module _ (k : ℕ) (lt : k < length columns) where
    abbrev in_column : Taken → Bool
    in_column t = counts reach (part_at columns k) t

    record Totalled (sums : Cell) (cells : List Cell) (p : Taken → Bool) : Type 0 where
      fits : EachFits sums cells
      holds : Holds (merged_each sums cells) (λ q. chosen (λ t. p t && in_column t) q window) most

    no_both : (a b c d : Bool) → (a && (b || c)) ≡ false → ((a && d) && (b && d)) ≡ false
    no_both false b c d h = refl
    no_both true true c d h = absurd (false≢true (sym h))
    no_both true false c true h = refl
    no_both true false c false h = refl

    no_more : (a b c : Bool) → (a && (b || c)) ≡ false → (b && c) ≡ false → ((a || b) && c) ≡ false
    no_more false b c h g = g
    no_more true true c h g = absurd (false≢true (sym h))
    no_more true false c h g = h

    either : (a b d : Bool) → ((a || b) && d) ≡ ((a && d) || (b && d))
    either true b true = refl
    either true true false = refl
    either true false false = refl
    either false b d = refl

    or_none : (a : Bool) → (a || false) ≡ a
    or_none true = refl
    or_none false = refl

    or_nested : (a b c : Bool) → (a || (b || c)) ≡ ((a || b) || c)
    or_nested true b c = refl
    or_nested false b c = refl

    once : (a : List ℕ) (accounts : List (List ℕ)) → is_in a accounts ≡ false → (t : Taken) → (bytes_eq t.account a && is_in t.account accounts) ≡ false
    once a accounts none t = elim (alike t.account a) [
      | inl same ↦ subst (λ (x : List ℕ). (bytes_eq x a && is_in x accounts) ≡ false) (sym same) (also (bytes_eq a a) (is_in a accounts) none)
      | inr differ ↦ ap (λ (b : Bool). b && is_in t.account accounts) differ
    ]
      where
        also : (b c : Bool) → c ≡ false → (b && c) ≡ false
        also true c e = e
        also false c e = refl

    total_each : (rows : List CellRow) (accounts : List (List ℕ)) (mine : Taken → Bool) (sums : Cell) → Holds sums (λ q. chosen (λ t. mine t && in_column t) q window) most → EachOnce accounts
        → ((t : Taken) → (mine t && is_in t.account accounts) ≡ false) → Rows rows accounts → Totalled sums (column_of k rows) (λ t. mine t || is_in t.account accounts)
    total_each [] [] mine sums held once_each apart g = record {
      fits = tt;
      holds = told sums (λ q. chosen (λ t. mine t && in_column t) q window) (λ q. chosen (λ t. (mine t || false) && in_column t) q window) most held
          (λ q. ap (sum_in q) (chosen-same (λ t. (mine t || false) && in_column t) (λ t. mine t && in_column t) (λ t. ap (λ (b : Bool). b && in_column t) (or_none (mine t))) window));
    }
    total_each [] (a ∷ accounts) mine sums held once_each apart g = absurd g
    total_each (r ∷ rows) [] mine sums held once_each apart g = absurd g
    total_each (r ∷ rows) (a ∷ accounts) mine sums held once_each apart g =
        let part : Cell = cell_at r.cells k in
        let of_part = cell_of_row a r.cells columns k lt g.1.0 in
        let own_one : Taken → Bool = λ t. bytes_eq t.account a in
        let split : (t : Taken) → ((mine t && in_column t) && (own_one t && in_column t)) ≡ false = λ t. no_both (mine t) (own_one t) (is_in t.account accounts) (in_column t) (apart t) in
        let both = merge_both sums part (λ q. chosen (λ t. mine t && in_column t) q window) (λ q. chosen (λ t. own_one t && in_column t) q window) most held of_part
        (λ q. omega (arith, small q, apart-le q (λ t. mine t && in_column t) (λ t. own_one t && in_column t) split window)) in
        let next = told (merged sums part) (λ q. chosen (λ t. mine t && in_column t) q window +ℤ chosen (λ t. own_one t && in_column t) q window) (λ q. chosen (λ t. (mine t || own_one t) && in_column t) q window) most both.holds
        (λ q. joined-is q (λ t. mine t && in_column t) (λ t. own_one t && in_column t) split (λ t. (mine t || own_one t) && in_column t) (λ t. either (mine t) (own_one t) (in_column t)) window) in
        let rest = total_each rows accounts (λ t. mine t || own_one t) (merged sums part) next once_each.1
        (λ t. no_more (mine t) (own_one t) (is_in t.account accounts) (apart t) (once a accounts once_each.0 t)) g.1.1 in
        record {
          fits = (both.fits, rest.fits);
          holds = told (merged_each (merged sums part) (column_of k rows))
              (λ q. chosen (λ t. ((mine t || own_one t) || is_in t.account accounts) && in_column t) q window)
              (λ q. chosen (λ t. (mine t || is_in t.account (a ∷ accounts)) && in_column t) q window) most rest.holds
              (λ q. ap (sum_in q) (chosen-same (λ t. (mine t || is_in t.account (a ∷ accounts)) && in_column t) (λ t. ((mine t || own_one t) || is_in t.account accounts) && in_column t)
              (λ t. ap (λ (b : Bool). b && in_column t) (or_nested (mine t) (own_one t) (is_in t.account accounts))) window));
        }

    module _ (accounts : List (List ℕ)) (once_each : EachOnce accounts) (every : AllByRecursion (λ (t : Taken). is_in t.account accounts ≡ true) window) (rows : List CellRow) (g : Rows rows accounts) where
      totalled : Totalled [] (column_of k rows) (λ t. false || is_in t.account accounts)
      totalled =
          total_each rows accounts (λ t. false) []
          (told [] (λ q. pos 0) (λ q. chosen (λ t. false && in_column t) q window) most (holds_none most) (λ q. chosen-none q (λ t. false && in_column t) (λ t. refl) window))
          once_each (λ t. refl) g

      all_in : (us : List Taken) → AllByRecursion (λ (t : Taken). is_in t.account accounts ≡ true) us → filter (λ t. is_in t.account accounts && in_column t) us ≡ filter in_column us
      all_in [] all = refl
      all_in (u ∷ us) all =
          ap (λ (b : Bool). cond (b && in_column u) (u ∷ filter (λ t. is_in t.account accounts && in_column t) us) (filter (λ t. is_in t.account accounts && in_column t) us)) all.0
          ∙ ap (λ (rest : List Taken). cond (in_column u) (u ∷ rest) rest) (all_in us all.1)

      column_holds : Holds (merged_each [] (column_of k rows)) (λ q. chosen in_column q window) most
      column_holds =
          told (merged_each [] (column_of k rows)) (λ q. chosen (λ t. (false || is_in t.account accounts) && in_column t) q window) (λ q. chosen in_column q window) most totalled.holds
          (λ q. ap (sum_in q) (sym (all_in window every)))

      total_shows : seen (merged_each [] (column_of k rows)) ≡ mixed_in (filter in_column window)
      total_shows = seen_is (merged_each [] (column_of k rows)) (filter in_column window) most column_holds

  totals_count : (n : ℕ) (rows : List CellRow) → length (column_totals n rows) ≡ n
  totals_count zero rows = refl
  totals_count (suc n) rows =
      length-append (column_totals n rows) (merged_each [] (column_of n rows) ∷ [])
      ∙ ap (λ (m : ℕ). m + 1) (totals_count n rows)
      ∙ add-one n

  at_left : (xs ys : List Cell) (k : ℕ) → k < length xs → cell_at (xs ++ ys) k ≡ cell_at xs k
  at_left [] ys k lt = absurd (omega (arith, lt))
  at_left (x ∷ xs) ys zero lt = refl
  at_left (x ∷ xs) ys (suc k) lt = at_left xs ys k (omega (arith, lt))

  at_end : (xs : List Cell) (y : Cell) → cell_at (xs ++ y ∷ []) (length xs) ≡ y
  at_end [] y = refl
  at_end (x ∷ xs) y = at_end xs y

  below : (k n : ℕ) → nat_lt k n ≡ true → k < n
  below k n e = grind (arith, nat_tests, e)

  not_below : (k n : ℕ) → nat_lt k n ≡ false → n ≤ k
  not_below k n e = grind (arith, nat_tests, e)

  total_at : (n k : ℕ) (rows : List CellRow) → k < n → cell_at (column_totals n rows) k ≡ merged_each [] (column_of k rows)
  total_at zero k rows lt = absurd (omega (arith, lt))
  total_at (suc n) k rows lt =
      elim (nat_lt k n) as (λ b. nat_lt k n ≡ b → cell_at (column_totals n rows ++ merged_each [] (column_of n rows) ∷ []) k ≡ merged_each [] (column_of k rows)) [
        | true ↦ λ e.
            at_left (column_totals n rows) (merged_each [] (column_of n rows) ∷ []) k (omega (arith, below k n e, totals_count n rows))
            ∙ total_at n k rows (below k n e)
        | false ↦ λ e.
            let is : k ≡ n = omega (arith, not_below k n e, lt) in
            ap (cell_at (column_totals n rows ++ merged_each [] (column_of n rows) ∷ [])) (is ∙ sym (totals_count n rows))
            ∙ at_end (column_totals n rows) (merged_each [] (column_of n rows))
            ∙ ap (λ (j : ℕ). merged_each [] (column_of j rows)) (sym is)
      ] refl

  totals_show : (accounts : List (List ℕ)) → EachOnce accounts → AllByRecursion (λ (t : Taken). is_in t.account accounts ≡ true) window → (rows : List CellRow) → Rows rows accounts
      → map seen (column_totals (length columns) rows) ≡ totals_in reach columns window
  totals_show accounts once_each every rows g =
      mapped_alike seen (λ column. mixed_in (filter (counts reach column) window)) [] (record { from = 0; end = 0 }) (column_totals (length columns) rows) columns (totals_count (length columns) rows)
      (λ k lt. ap seen (total_at (length columns) k rows lt) ∙ total_shows k lt accounts once_each every rows g)

  -- ---- rows of all accounts that are named

  every_named : AllByRecursion (λ (t : Taken). is_in t.account kept.accounts ≡ true) window
  every_named = among (λ a. is_in a kept.accounts) window (λ a e. named_if a (is_in a kept.accounts) refl e)
    where
      named_if : (a : List ℕ) (b : Bool) → is_in a kept.accounts ≡ b → list_any (is_of a) window ≡ true → is_in a kept.accounts ≡ true
      named_if a true is e = is
      named_if a false is e = absurd (false≢true (sym (none_kept (is_of a) (λ t. holds days t.day) ts (h.accounts a is)) ∙ e))

  abbrev row_in : List ℕ → Row
  row_in account = (account, map (λ column. cell reach window column account) columns)

  no_cell : (account : List ℕ) (column : Span) → list_any (is_of account) window ≡ false → cell reach window column account ≡ []
  no_cell account column none = ap mixed_in (none_filtered (is_of account) (counts reach column) window none)

  no_cells : (account : List ℕ) → list_any (is_of account) window ≡ false → (cs : List Span) → list_any has_sums (map (λ column. cell reach window column account) cs) ≡ false
  no_cells account none [] = refl
  no_cells account none (column ∷ cs) = (λ i. has_sums (no_cell account column none i) || no_cells account none cs i)

  shown_same : shown_rows false (map row_in kept.accounts) ≡ shown_rows false (rows_in reach columns window)
  shown_same =
      skipped row_in (λ row. false || is_shown row) (λ x. list_any (is_of x) window) (λ x e. no_cells x e columns) kept.accounts
      ∙ ap (λ (names : List (List ℕ)). shown_rows false (map row_in names)) (names_are kept ts h days)

  pub named_fit : (rows : List CellRow) → Rows rows kept.accounts → (k : ℕ) → k < length columns → EachFits [] (column_of k rows)
  named_fit rows g k lt = (totalled k lt kept.accounts (once_in_order kept.accounts h.ready.ordered) every_named rows g).fits

  pub shown_are : (rows : List CellRow) (cells : Cells) → Rows rows kept.accounts → cells.columns ≡ columns → cells.rows ≡ rows → cells.totals ≡ column_totals (length columns) rows → ShowSumsOf columns reach window cells
  shown_are rows cells g by_columns by_rows by_totals = record {
    by_columns = by_columns;
    rows = ap (λ (rs : List CellRow). shown_rows false (map row_seen rs)) by_rows ∙ ap (shown_rows false) (rows_show rows kept.accounts g) ∙ shown_same;
    totals = ap (map seen) by_totals ∙ totals_show kept.accounts (once_in_order kept.accounts h.ready.ordered) every_named rows g;
    within = none_out;
  }
