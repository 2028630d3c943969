-- The totals of the columns, summed from the rows, are the sums of all takings that the columns count.
use Rattle.std.proofs.Common.{◌≡◌, ℕ, zero, suc, pos, ◌+◌, ◌-◌, ◌*◌, ◌^◌, ◌<◌, ◌≤◌, ◌+ℤ◌, unsigned_abs, Bool, true, false, nat_lt, cond, ◌&&◌, ◌||◌, List, [], ◌∷◌, ◌++◌, length, map, filter, drop, get_or, slice_index_or, Option, Some, None, is_some, inl, inr, refl, sym, ap, subst, ◌∙◌, add-one, drop-cons, length-append, arith}
use Rattle.std.specs.Ordering.{is_eq, eq_by_cmp}
use Rattle.std.specs.List.{AllByRecursion}
use Rattle.std.specs.Str.{bytes_eq}
use Rattle.std.specs.FinMap.Entries.{find}
use Rattle.std.proofs.lemmas.Bool.{false≢true}
use Rattle.std.proofs.lemmas.Bool.Decides.{nat_tests}
use Rattle.std.proofs.lemmas.Cmp.{eq_by_cmp_equiv}
use Rattle.std.proofs.lemmas.List.{drop_all}
use Rattle.hl_time.specs.Split.{part_at}
use Rattle.hl_time.specs.declared.spans.Span.{Span}
use Rattle.book.specs.Accounts.{account_cmp}
use Rattle.book.proofs.Accounts.{account_total, account_ties}
use Rattle.book.proofs.Order.{is_equal, AllFound}
use Rattle.book.proofs.Places.{first, second}
use Rattle.report_cells.specs.Taken.{Taken, sum_in, mixed_in}
use Rattle.report_cells.specs.Bounds.{turnover_in}
use Rattle.report_cells.specs.Report.{counts, totals_in, seen}
use Rattle.report_cells.specs.Follows.{Follow}
use Rattle.report_cells.specs.Places.{place}
use Rattle.report_cells.specs.Kept.{Cell, KeptRows, AreOrdered, cell_at, merged, MergeFits, finished, finished_row, column_of, merged_each, EachFits, column_totals}
use Rattle.report_cells.specs.declared.cells.CellRow.{CellRow}
use Rattle.report_cells.specs.declared.reach.Reach.{Reach}
use Rattle.report_cells.proofs.Choosing.{chosen, chosen-same, chosen-none, apart-le, joined-is}
use Rattle.report_cells.proofs.Counting.{gathers, counts-place}
use Rattle.report_cells.proofs.Ending.{none_past, found_first, mapped_alike, finish_holds, seen_is}
use Rattle.report_cells.proofs.Gathering.{has_account, HoldsFound, IsGathered, tie-account}
use Rattle.report_cells.proofs.Holding.{Holds, holds_none, told, alike, bytes_eq-itself}
use Rattle.report_cells.proofs.Joining.{merge_both}
use Rattle.report_cells.proofs.Walking.{cut}

-- ---- a row's cell in a column

pub cell_here : (row : List Cell) (at : ℕ) (c : Cell) → at < length row → c ≡ get_or row at c → cell_at row at ≡ c
cell_here [] at c lt is = absurd (omega arith)
cell_here (x ∷ row) zero c lt is = sym is
cell_here (x ∷ row) (suc at) c lt is = cell_here row at c (omega arith) is

pub cell_past : (row : List Cell) (at : ℕ) → length row ≤ at → cell_at row at ≡ []
cell_past [] at le = refl
cell_past (x ∷ row) zero le = absurd (omega arith)
cell_past (x ∷ row) (suc at) le = cell_past row at (omega arith)

-- ---- a column that is summed row by row

pub record Columned (at : ℕ) (now : Cell) (rows : List CellRow) (i : ℕ) : Type 0 where
  pub left : merged_each now (column_of at (drop i rows)) ≡ merged_each [] (column_of at rows)
  pub fits : EachFits now (column_of at (drop i rows))

pub columned_none : (at : ℕ) (now : Cell) (rows : List CellRow) → EachFits [] (column_of at rows) → now ≡ [] → Columned at now rows 0
columned_none at now rows fits is = record {
  left = ap (λ (m : Cell). merged_each m (column_of at rows)) is;
  fits = subst (λ (m : Cell). EachFits m (column_of at rows)) (sym is) fits;
}

module _ (at : ℕ) (now : Cell) (rows : List CellRow) (i : ℕ) (row : CellRow) (within : i < length rows) (read : row ≡ get_or rows i row) (h : Columned at now rows i) where
  rest_is : column_of at (drop i rows) ≡ cell_at row.cells at ∷ column_of at (drop (i + 1) rows)
  rest_is = ap (column_of at) (cut rows i row within read)

  here_fits : EachFits now (cell_at row.cells at ∷ column_of at (drop (i + 1) rows))
  here_fits = subst (EachFits now) rest_is h.fits

  pub column_fits : MergeFits now (cell_at row.cells at)
  column_fits = here_fits.0

  pub columned_more : (new : Cell) → new ≡ merged now (cell_at row.cells at) → Columned at new rows (i + 1)
  columned_more new is = record {
    left = ap (λ (m : Cell). merged_each m (column_of at (drop (i + 1) rows))) is ∙ sym (ap (merged_each now) rest_is) ∙ h.left;
    fits = subst (λ (m : Cell). EachFits m (column_of at (drop (i + 1) rows))) (sym is) here_fits.1;
  }

pub columned_done : (at : ℕ) (now : Cell) (rows : List CellRow) (i : ℕ) → length rows ≤ i → Columned at now rows i → now ≡ merged_each [] (column_of at rows)
columned_done at now rows i over h = sym (ap (λ (rs : List CellRow). merged_each now (column_of at rs)) (drop_all i rows over)) ∙ h.left

-- ---- the totals of so many columns

pub column_more : (n : ℕ) (rows : List CellRow) (totals : List Cell) (total : Cell) (new : List Cell) → totals ≡ column_totals n rows → total ≡ merged_each [] (column_of n rows) → new ≡ totals ++ total ∷ [] → new ≡ column_totals (n + 1) rows
column_more n rows totals total new all one pushed =
    let step : column_totals (n + 1) rows ≡ column_totals (suc n) rows = ap (λ (k : ℕ). column_totals k rows) (add-one n) in
    pushed ∙ ap (λ (t : Cell). totals ++ t ∷ []) one ∙ ap (λ (ts : List Cell). ts ++ merged_each [] (column_of n rows) ∷ []) all ∙ sym step

totals_count : (n : ℕ) (rows : List CellRow) → length (column_totals n rows) ≡ n
totals_count zero rows = refl
totals_count (suc n) rows =
    length-append (column_totals n rows) (merged_each [] (column_of n rows) ∷ [])
    ∙ ap (λ (m : ℕ). m + 1) (totals_count n rows)
    ∙ add-one n

at_left : (xs ys : List Cell) (k : ℕ) → k < length xs → cell_at (xs ++ ys) k ≡ cell_at xs k
at_left [] ys k lt = absurd (omega arith)
at_left (x ∷ xs) ys zero lt = refl
at_left (x ∷ xs) ys (suc k) lt = at_left xs ys k (omega arith)

at_end : (xs : List Cell) (y : Cell) → cell_at (xs ++ y ∷ []) (length xs) ≡ y
at_end [] y = refl
at_end (x ∷ xs) y = at_end xs y

below : (k n : ℕ) → nat_lt k n ≡ true → k < n
below k n e = grind (arith, nat_tests, e)

not_below : (k n : ℕ) → nat_lt k n ≡ false → n ≤ k
not_below k n e = grind (arith, nat_tests, e)

total_at : (n k : ℕ) (rows : List CellRow) → k < n → cell_at (column_totals n rows) k ≡ merged_each [] (column_of k rows)
total_at zero k rows lt = absurd (omega arith)
total_at (suc n) k rows lt =
    elim (nat_lt k n) as (λ b. nat_lt k n ≡ b → cell_at (column_totals n rows ++ merged_each [] (column_of n rows) ∷ []) k ≡ merged_each [] (column_of k rows)) [
      | true ↦ λ e.
          at_left (column_totals n rows) (merged_each [] (column_of n rows) ∷ []) k (omega (arith, below k n e, totals_count n rows))
          ∙ total_at n k rows (below k n e)
      | false ↦ λ e.
          let is : k ≡ n = omega (arith, not_below k n e, lt) in
          ap (cell_at (column_totals n rows ++ merged_each [] (column_of n rows) ∷ [])) (is ∙ sym (totals_count n rows))
          ∙ at_end (column_totals n rows) (merged_each [] (column_of n rows))
          ∙ ap (λ (j : ℕ). merged_each [] (column_of j rows)) (sym is)
    ] refl

-- ---- tests of which one holds at most

no_both : (a b c d : Bool) → (a && (b || c)) ≡ false → ((a && d) && (b && d)) ≡ false
no_both false b c d h = refl
no_both true false c true h = refl
no_both true false c false h = refl
no_both true true c d h = absurd (false≢true (sym h))

no_more : (a b c : Bool) → (a && (b || c)) ≡ false → (b && c) ≡ false → ((a || b) && c) ≡ false
no_more true true c h k = absurd (false≢true (sym h))
no_more true false c h k = h
no_more false b c h k = k

either : (a b d : Bool) → ((a || b) && d) ≡ ((a && d) || (b && d))
either true b true = refl
either true true false = refl
either true false false = refl
either false b d = refl

or_none : (a : Bool) → (a || false) ≡ a
or_none true = refl
or_none false = refl

or_assoc : (a b c : Bool) → (a || (b || c)) ≡ ((a || b) || c)
or_assoc true b c = refl
or_assoc false b c = refl

and_none : (a : Bool) → (a && false) ≡ false
and_none true = refl
and_none false = refl

or_right : (a b : Bool) → b ≡ true → (a || b) ≡ true
or_right true b e = refl
or_right false b e = e

-- ---- which rows have a taking's account

abbrev found_in : KeptRows → Taken → Bool
found_in es t = is_some (find account_cmp t.account es)

tie_taking : (t : Taken) (a : List ℕ) → eq_by_cmp account_cmp t.account a ≡ bytes_eq t.account a
tie_taking t a = (eq_by_cmp_equiv account_total).symm t.account a ∙ tie-account a t.account

found-cons : (e : List ℕ × List Cell) (es : KeptRows) (t : Taken) → found_in (e ∷ es) t ≡ (bytes_eq t.account e.0 || found_in es t)
found-cons e es t =
    ap (λ (b : Bool). is_some (cond b (Some e.1) (find account_cmp t.account es))) (tie_taking t e.0) ∙ by (bytes_eq t.account e.0)
  where
    by : (b : Bool) → is_some (cond b (Some e.1) (find account_cmp t.account es)) ≡ (b || found_in es t)
    by true = refl
    by false = refl

once : (e : List ℕ × List Cell) (es : KeptRows) → AreOrdered (e ∷ es) → (t : Taken) → (bytes_eq t.account e.0 && found_in es t) ≡ false
once e es ordered t = elim (alike t.account e.0) [
  | inl same ↦
      ap (λ (b : Bool). bytes_eq t.account e.0 && b) (ap (λ (k : List ℕ). is_some (find account_cmp k es)) same ∙ ap is_some (none_past e.0 es (first _ _ ordered)))
      ∙ and_none (bytes_eq t.account e.0)
  | inr differ ↦ ap (λ (b : Bool). b && found_in es t) differ
]

-- what holds of each row that is found, by its account, holds of all
all_each : (P : List ℕ → List Cell → Type 0) (es : KeptRows) → AreOrdered es → ((q : List ℕ) → AllFound (P q) (find account_cmp q es)) → AllByRecursion (λ (e : List ℕ × List Cell). P e.0 e.1) es
all_each P [] ordered found = tt
all_each P (e ∷ es) ordered found = (
  subst (AllFound (P e.0)) (found_first e.0 e.1 es) (found e.0),
  all_each P es (second _ _ ordered) (λ q.
      elim (eq_by_cmp account_cmp q e.0) as (λ b. eq_by_cmp account_cmp q e.0 ≡ b → AllFound (P q) (find account_cmp q es)) [
        | true ↦ λ t. subst (AllFound (P q)) (sym (ap (λ (k : List ℕ). find account_cmp k es) (account_ties q e.0 (is_equal _ t)) ∙ none_past e.0 es (first _ _ ordered))) tt
        | false ↦ λ t. subst (AllFound (P q)) (ap (λ (b : Bool). cond b (Some e.1) (find account_cmp q es)) t) (found q)
      ] refl),
)

all_known : (found : List ℕ → Bool) (us : List Taken) → ((q : List ℕ) → has_account q us ≡ true → found q ≡ true) → AllByRecursion (λ (t : Taken). found t.account ≡ true) us
all_known found [] known = tt
all_known found (u ∷ us) known = (
  known u.account (ap (λ (b : Bool). b || has_account u.account us) (bytes_eq-itself u.account)),
  all_known found us (λ q has. known q (or_right (bytes_eq u.account q) (has_account q us) has)),
)

all_chosen : (p r : Taken → Bool) (us : List Taken) → AllByRecursion (λ (t : Taken). p t ≡ true) us → filter (λ t. p t && r t) us ≡ filter r us
all_chosen p r [] h = refl
all_chosen p r (u ∷ us) h =
    ap (λ (b : Bool). cond (b && r u) (u ∷ filter (λ t. p t && r t) us) (filter (λ t. p t && r t) us)) h.0
    ∙ ap (λ (rest : List Taken). cond (r u) (u ∷ rest) rest) (all_chosen p r us h.1)

-- ---- one column

module _ (reach : Reach) (goes : Taken → Option ℕ) (ts : List Taken) (most : List ℕ → ℕ) (small : (q : List ℕ) → turnover_in q ts < 2 ^ 127 * 10 ^ (36 - most q)) (k : ℕ) where
  abbrev in_column : Taken → Bool
  in_column t = gathers reach k (goes t)

  -- the cell of a row holds the sums of its account
  abbrev IsCell : List ℕ → List Cell → Type 0
  IsCell account row = Holds (cell_at (finished reach row) k) (λ q. chosen (λ t. bytes_eq t.account account && in_column t) q ts) most

  record Totalled (sums : Cell) (cells : List Cell) (p : Taken → Bool) : Type 0 where
    fits : EachFits sums cells
    holds : Holds (merged_each sums cells) (λ q. chosen (λ t. p t && in_column t) q ts) most

  -- rows that are added to the sums of others
  total_each : (es : KeptRows) (mine : Taken → Bool) (sums : Cell) → Holds sums (λ q. chosen (λ t. mine t && in_column t) q ts) most → AreOrdered es
      → ((t : Taken) → (mine t && found_in es t) ≡ false) → AllByRecursion (λ (e : List ℕ × List Cell). IsCell e.0 e.1) es
      → Totalled sums (column_of k (map (finished_row reach) es)) (λ t. mine t || found_in es t)
  total_each [] mine sums h ordered apart rows = record {
    fits = tt;
    holds = told sums (λ q. chosen (λ t. mine t && in_column t) q ts) (λ q. chosen (λ t. (mine t || false) && in_column t) q ts) most h
        (λ q. ap (sum_in q) (chosen-same (λ t. (mine t || false) && in_column t) (λ t. mine t && in_column t) (λ t. ap (λ (b : Bool). b && in_column t) (or_none (mine t))) ts));
  }
  total_each (e ∷ es) mine sums h ordered apart rows =
      let cell : Cell = cell_at (finished reach e.1) k in
      let own : Taken → Bool = λ t. bytes_eq t.account e.0 in
      let alone : (t : Taken) → (mine t && (own t || found_in es t)) ≡ false = λ t. ap (λ (b : Bool). mine t && b) (sym (found-cons e es t)) ∙ apart t in
      let split : (t : Taken) → ((mine t && in_column t) && (own t && in_column t)) ≡ false = λ t. no_both (mine t) (own t) (found_in es t) (in_column t) (alone t) in
      let both = merge_both sums cell (λ q. chosen (λ t. mine t && in_column t) q ts) (λ q. chosen (λ t. own t && in_column t) q ts) most h rows.0
      (λ q. omega (arith, small q, apart-le q (λ t. mine t && in_column t) (λ t. own t && in_column t) split ts)) in
      let next = told (merged sums cell) (λ q. chosen (λ t. mine t && in_column t) q ts +ℤ chosen (λ t. own t && in_column t) q ts) (λ q. chosen (λ t. (mine t || own t) && in_column t) q ts) most both.holds
      (λ q. joined-is q (λ t. mine t && in_column t) (λ t. own t && in_column t) split (λ t. (mine t || own t) && in_column t) (λ t. either (mine t) (own t) (in_column t)) ts) in
      let rest = total_each es (λ t. mine t || own t) (merged sums cell) next (second _ _ ordered)
      (λ t. no_more (mine t) (own t) (found_in es t) (alone t) (once e es ordered t)) rows.1 in
      record {
        fits = (both.fits, rest.fits);
        holds = told (merged_each (merged sums cell) (column_of k (map (finished_row reach) es)))
            (λ q. chosen (λ t. ((mine t || own t) || found_in es t) && in_column t) q ts)
            (λ q. chosen (λ t. (mine t || found_in (e ∷ es) t) && in_column t) q ts) most rest.holds
            (λ q. ap (sum_in q) (chosen-same (λ t. (mine t || found_in (e ∷ es) t) && in_column t) (λ t. ((mine t || own t) || found_in es t) && in_column t)
            (λ t. ap (λ (b : Bool). (mine t || b) && in_column t) (found-cons e es t) ∙ ap (λ (b : Bool). b && in_column t) (or_assoc (mine t) (own t) (found_in es t))) ts));
      }

-- ---- all columns

module _ (reach : Reach) (columns : List Span) (f : Follow columns) (ts : List Taken) (most : List ℕ → ℕ) (small : (q : List ℕ) → turnover_in q ts < 2 ^ 127 * 10 ^ (36 - most q)) (rows : KeptRows) (h : IsGathered (λ t. place reach columns t.day) (length columns) most rows ts) where
  abbrev at_place : Taken → Option ℕ
  at_place t = place reach columns t.day

  abbrev shown : List CellRow
  shown = map (finished_row reach) rows

  row_cell : (k : ℕ) → k < length columns → (q : List ℕ) (o : Option (List Cell)) → HoldsFound at_place (length columns) most o q ts → AllFound (IsCell reach at_place ts most small k q) o
  row_cell k lt q None found = tt
  row_cell k lt q (Some row) found = (finish_holds reach at_place (λ t. bytes_eq t.account q) ts (length columns) most small row found.0).each k lt

  known : (q : List ℕ) → has_account q ts ≡ true → is_some (find account_cmp q rows) ≡ true
  known q has = by (find account_cmp q rows) (h.each q)
    where
      by : (o : Option (List Cell)) → HoldsFound at_place (length columns) most o q ts → is_some o ≡ true
      by None none = absurd (false≢true (sym none ∙ has))
      by (Some row) found = refl

  totalled : (k : ℕ) → k < length columns → Totalled reach at_place ts most small k [] (column_of k shown) (λ t. false || found_in rows t)
  totalled k lt =
      total_each reach at_place ts most small k rows (λ t. false) []
      (told [] (λ q. pos 0) (λ q. chosen (λ t. false && gathers reach k (at_place t)) q ts) most (holds_none most) (λ q. chosen-none q (λ t. false && gathers reach k (at_place t)) (λ t. refl) ts))
      h.ordered (λ t. refl)
      (all_each (IsCell reach at_place ts most small k) rows h.ordered (λ q. row_cell k lt q (find account_cmp q rows) (h.each q)))

  -- each column can be summed
  pub columns_fit : (k : ℕ) → k < length columns → EachFits [] (column_of k shown)
  columns_fit k lt = (totalled k lt).fits

  column_holds : (k : ℕ) → k < length columns → Holds (merged_each [] (column_of k shown)) (λ q. chosen (λ t. gathers reach k (at_place t)) q ts) most
  column_holds k lt =
      told (merged_each [] (column_of k shown)) (λ q. chosen (λ t. (false || found_in rows t) && gathers reach k (at_place t)) q ts) (λ q. chosen (λ t. gathers reach k (at_place t)) q ts) most (totalled k lt).holds
      (λ q. ap (sum_in q) (sym (all_chosen (found_in rows) (λ t. gathers reach k (at_place t)) ts (all_known (λ q. is_some (find account_cmp q rows)) ts known))))

  -- and the sums are the report's totals
  pub totals_are : map seen (column_totals (length columns) shown) ≡ totals_in reach columns ts
  totals_are =
      mapped_alike seen (λ column. mixed_in (filter (counts reach column) ts)) [] (record { from = 0; end = 0 }) (column_totals (length columns) shown) columns (totals_count (length columns) shown)
      (λ k lt.
      ap seen (total_at (length columns) k shown lt)
      ∙ seen_is (merged_each [] (column_of k shown)) (filter (λ t. gathers reach k (at_place t)) ts) most (column_holds k lt)
      ∙ ap mixed_in (chosen-same (λ t. gathers reach k (at_place t)) (counts reach (part_at columns k)) (λ t. sym (counts-place reach columns f k lt t)) ts))
