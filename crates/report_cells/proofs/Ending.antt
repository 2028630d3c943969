-- Rows that hold the sums of their takings are what the report shows.
use Rattle.std.proofs.Common.{◌≡◌, ◌≢◌, ℕ, zero, suc, ℤ, pos, negsuc, ◌-◌, ◌*◌, ◌^◌, ◌<◌, ◌+ℤ◌, unsigned_abs, Bool, true, false, not, cond, ◌&&◌, ◌||◌, List, [], ◌∷◌, ◌++◌, length, map, filter, slice_index_or, T, Option, Some, None, refl, sym, ap, subst, ◌∙◌, arith}
use Rattle.std.specs.Ordering.{nat_cmp, is_eq, eq_by_cmp}
use Rattle.std.specs.Cmp.Lexicographic.{slice_cmp, nat_list_cmp_total}
use Rattle.std.specs.List.{flat_map, list_any, AllByRecursion}
use Rattle.std.specs.Str.{bytes_eq}
use Rattle.std.specs.FinMap.Entries.{below_all, find, same_entries}
use Rattle.std.proofs.lemmas.Bool.{ne_eqb, or_parts}
use Rattle.std.proofs.lemmas.Bool.Decides.{nat_tests}
use Rattle.std.proofs.lemmas.Cmp.{tied_itself}
use Rattle.std.proofs.Math.IntN.{+ℤ_idl}
use Rattle.hl_num.specs.Decimal.{Decimal, units_of}
use Rattle.hl_num.proofs.DecimalLemmas.{zero-from_units}
use Rattle.hl_num.proofs.RoundingLemmas.{pow_ten_positive}
use Rattle.hl_time.specs.Split.{part_at}
use Rattle.hl_time.specs.declared.spans.Span.{Span}
use Rattle.book.specs.Accounts.{account_cmp}
use Rattle.book.specs.Sums.{is_nonzero}
use Rattle.book.specs.Entries.{held}
use Rattle.book.proofs.Accounts.{account_total, account_ties}
use Rattle.book.proofs.Entries.{text_ties, tie-bytes_eq}
use Rattle.book.proofs.Places.{first, second, less}
use Rattle.book.proofs.Order.{is_equal, AllFound, mapped_option, passing, contains-each_once, sorted-each_once, sorted-filter, sorted-mapped, find-mapped, find-made, find-passing, all-found}
use Rattle.report_cells.specs.Taken.{Shared, Taken, share_in, sum_in, symbol_of, symbols_in, mixed_in}
use Rattle.report_cells.specs.Bounds.{turnover_in}
use Rattle.report_cells.specs.Report.{Sums, counts, cell, accounts_in, rows_in, totals_in, seen, row_seen}
use Rattle.report_cells.specs.Follows.{Follow}
use Rattle.report_cells.specs.Places.{place}
use Rattle.report_cells.specs.Kept.{Cell, KeptRows, AreOrdered, cell_at, finished, FinishFits, finished_row}
use Rattle.report_cells.specs.declared.reach.Reach.{Reach}
use Rattle.report_cells.specs.declared.reach.Reach.TheVariants.{Within, UpTo}
use Rattle.report_cells.proofs.Choosing.{chosen, chosen-same, chosen-none, chosen-le, apart-le, joined-is}
use Rattle.report_cells.proofs.Counting.{is_before, gathers, counts-place}
use Rattle.report_cells.proofs.Gathering.{has_account, HoldsFound, IsGathered, tie-account}
use Rattle.report_cells.proofs.Holding.{HoldsSum, Holds, holds_none, told}
use Rattle.report_cells.proofs.Joining.{runs}
use Rattle.report_cells.proofs.Standing.{is_at, HoldsRow}

is_nonzero-true : (z : ℤ) → z ≢ pos 0 → is_nonzero z ≡ true
is_nonzero-true (pos zero) h = absurd (h refl)
is_nonzero-true (pos (suc n)) h = ap not (ne_eqb (suc n) 0 (omega arith))
is_nonzero-true (negsuc n) h = ap not (ne_eqb (unsigned_abs (negsuc n)) 0 (omega arith))

nonzero_units : (d : Decimal) → d.mantissa ≢ pos 0 → is_nonzero (units_of d) ≡ true
nonzero_units d h = is_nonzero-true (units_of d) (λ e. h (zero-from_units d.mantissa (10 ^ (36 - d.places)) (pow_ten_positive (36 - d.places)) e))

found_sum : (o : Option Decimal) (s : ℤ) (n : ℕ) → HoldsSum o s n → AllFound (λ (d : Decimal). d.mantissa ≢ pos 0) o → mapped_option units_of o ≡ passing is_nonzero s
found_sum None s n h some = sym (ap (passing is_nonzero) h)
found_sum (Some d) s n h some =
    sym (ap (λ (b : Bool). cond b (Some (units_of d)) None) (nonzero_units d some)) ∙ ap (passing is_nonzero) h.units

-- a symbol that isn't there sums to nothing
no_share : (q : List ℕ) (amount : Option Shared) (more : List (List ℕ)) → list_any (eq_by_cmp (slice_cmp nat_cmp) q) (symbol_of amount ++ more) ≡ false → (share_in q amount ≡ pos 0) × (list_any (eq_by_cmp (slice_cmp nat_cmp) q) more ≡ false)
no_share q None more h = (refl, h)
no_share q (Some a) more h =
    let parts = or_parts (eq_by_cmp (slice_cmp nat_cmp) q a.0) (list_any (eq_by_cmp (slice_cmp nat_cmp) q) more) h in
    (ap (λ (b : Bool). cond b (units_of a.1) (pos 0)) (sym (tie-bytes_eq q a.0) ∙ parts.0), parts.1)

no_sum : (q : List ℕ) (qs : List Taken) → list_any (eq_by_cmp (slice_cmp nat_cmp) q) (flat_map (λ (p : Taken). symbol_of p.amount) qs) ≡ false → sum_in q qs ≡ pos 0
no_sum q [] h = refl
no_sum q (p ∷ qs) h =
    let parts = no_share q p.amount (flat_map (λ (p : Taken). symbol_of p.amount) qs) h in
    ap (λ (z : ℤ). z +ℤ sum_in q qs) parts.0 ∙ +ℤ_idl (sum_in q qs) ∙ no_sum q qs parts.1

there_or_zero : (q : List ℕ) (qs : List Taken) (b : Bool) → list_any (eq_by_cmp (slice_cmp nat_cmp) q) (flat_map (λ (p : Taken). symbol_of p.amount) qs) ≡ b → cond b (passing is_nonzero (sum_in q qs)) None ≡ passing is_nonzero (sum_in q qs)
there_or_zero q qs true e = refl
there_or_zero q qs false e = sym (ap (passing is_nonzero) (no_sum q qs e))

-- kept sums say what the postings sum to
pub seen_is : (m : Cell) (qs : List Taken) (most : List ℕ → ℕ) → Holds m (λ q. sum_in q qs) most → seen m ≡ mixed_in qs
seen_is m qs most h =
    let keys = flat_map (λ (p : Taken). symbol_of p.amount) qs in
    let value = λ (symbol : List ℕ). sum_in symbol qs in
    same_entries (slice_cmp nat_cmp) nat_list_cmp_total text_ties (seen m) (mixed_in qs)
    (sorted-mapped (slice_cmp nat_cmp) units_of m h.ordered.rising)
    (sorted-filter (slice_cmp nat_cmp) (λ (sum : List ℕ × ℤ). is_nonzero sum.1) (map (λ (symbol : List ℕ). (symbol, sum_in symbol qs)) (symbols_in qs)) (sorted-each_once text_ties value nat_list_cmp_total keys))
    (λ q.
    find-mapped (slice_cmp nat_cmp) units_of m q
    ∙ found_sum (held q m) (sum_in q qs) _ (h.each q) (all-found (slice_cmp nat_cmp) (λ (d : Decimal). d.mantissa ≢ pos 0) m q h.ordered.nonzero)
    ∙ sym (find-passing text_ties value is_nonzero (symbols_in qs) q
    ∙ ap (λ (b : Bool). cond b (passing is_nonzero (sum_in q qs)) None) (contains-each_once text_ties keys q)
    ∙ there_or_zero q qs _ refl))

-- ---- running sums

false_and : (m : Bool) → (m && false) ≡ false
false_and true = refl
false_and false = refl

-- a column comes after one, or is it, or neither
before_or_at : (m : Bool) (k : ℕ) (at : Option ℕ) → (m && is_before (suc k) at) ≡ ((m && is_before k at) || (m && is_at k at))
before_or_at false k at = refl
before_or_at true k None = refl
before_or_at true k (Some j) = grind (arith, nat_tests)

before_not_at : (m : Bool) (k : ℕ) (at : Option ℕ) → ((m && is_before k at) && (m && is_at k at)) ≡ false
before_not_at false k at = refl
before_not_at true k None = refl
before_not_at true k (Some j) = grind (arith, nat_tests)

before_none : (m : Bool) (at : Option ℕ) → (m && is_before 0 at) ≡ false
before_none false at = refl
before_none true None = refl
before_none true (Some j) = grind (arith, nat_tests)

module _ (reach : Reach) (place : Taken → Option ℕ) (mine : Taken → Bool) (ts : List Taken) (width : ℕ) (most : List ℕ → ℕ) (small : (q : List ℕ) → turnover_in q ts < 2 ^ 127 * 10 ^ (36 - most q)) where
  abbrev IsRow : List Cell → Type 0
  IsRow row = HoldsRow row width (λ k q. chosen (λ t. mine t && is_at k (place t)) q ts) most

  -- what running sums need and give
  record Sums_up (row : List Cell) : Type 0 where
    fits : FinishFits UpTo row
    holds : HoldsRow (finished UpTo row) width (λ k q. chosen (λ t. mine t && is_before (suc k) (place t)) q ts) most

  sums_up : (row : List Cell) → IsRow row → Sums_up row
  sums_up row h =
      let total : ℕ → List ℕ → ℤ = λ k q. chosen (λ t. mine t && is_before k (place t)) q ts in
      let exact : ℕ → List ℕ → ℤ = λ k q. chosen (λ t. mine t && is_at k (place t)) q ts in
      let start = told [] (λ q. pos 0) (total 0) most (holds_none most) (λ q. chosen-none q (λ t. mine t && is_before 0 (place t)) (λ t. before_none (mine t) (place t)) ts) in
      let all = runs row [] total exact most start (λ k lt. h.each k (subst (λ n. k < n) h.columns lt))
      (λ k q. joined-is q (λ t. mine t && is_before k (place t)) (λ t. mine t && is_at k (place t)) (λ t. before_not_at (mine t) k (place t)) (λ t. mine t && is_before (suc k) (place t)) (λ t. before_or_at (mine t) k (place t)) ts)
      (λ k q. omega (arith, small q, apart-le q (λ t. mine t && is_before k (place t)) (λ t. mine t && is_at k (place t)) (λ t. before_not_at (mine t) k (place t)) ts))
      (λ k q. omega (arith, small q, chosen-le q (λ t. mine t && is_before k (place t)) ts)) in
      record { fits = all.fits; holds = subst (λ n. HoldsRow (finished UpTo row) n (λ k. total (suc k)) most) h.columns all.holds }

  pub finish_fits : (row : List Cell) → IsRow row → FinishFits reach row
  finish_fits row h = elim reach as (λ r. FinishFits r row) [ Within ↦ tt | UpTo ↦ (sums_up row h).fits ]

  pub finish_holds : (row : List Cell) → IsRow row → HoldsRow (finished reach row) width (λ k q. chosen (λ t. mine t && gathers reach k (place t)) q ts) most
  finish_holds row h = elim reach as (λ r. HoldsRow (finished r row) width (λ k q. chosen (λ t. mine t && gathers r k (place t)) q ts) most) [ Within ↦ h | UpTo ↦ (sums_up row h).holds ]

-- ---- rows and totals

pub none_past : (k : List ℕ) (es : KeptRows) → T (below_all account_cmp k es) → find account_cmp k es ≡ None
none_past k [] h = refl
none_past k (e ∷ es) h =
    ap (λ r. cond (is_eq r) (Some e.1) (find account_cmp k es)) (less _ (first _ _ h)) ∙ none_past k es (second _ _ h)

pub found_first : (k : List ℕ) (row : List Cell) (es : KeptRows) → find account_cmp k ((k, row) ∷ es) ≡ Some row
found_first k row es = ap (λ r. cond (is_eq r) (Some row) (find account_cmp k es)) (tied_itself account_total k)

-- what holds of each row that is found holds of all
all_from_found : (P : List Cell → Type 0) (es : KeptRows) → AreOrdered es → ((q : List ℕ) → AllFound P (find account_cmp q es)) → AllByRecursion (λ (e : List ℕ × List Cell). P e.1) es
all_from_found P [] ordered found = tt
all_from_found P (e ∷ es) ordered found = (
  subst (AllFound P) (found_first e.0 e.1 es) (found e.0),
  all_from_found P es (second _ _ ordered) (λ q.
      elim (eq_by_cmp account_cmp q e.0) as (λ b. eq_by_cmp account_cmp q e.0 ≡ b → AllFound P (find account_cmp q es)) [
        | true ↦ λ t. subst (AllFound P) (sym (ap (λ (k : List ℕ). find account_cmp k es) (account_ties q e.0 (is_equal _ t)) ∙ none_past e.0 es (first _ _ ordered))) tt
        | false ↦ λ t. subst (AllFound P) (ap (λ (b : Bool). cond b (Some e.1) (find account_cmp q es)) t) (found q)
      ] refl),
)

-- lists of one length that look alike at each place
pub mapped_alike : {A B C : Type 0} (f : A → C) (g : B → C) (a : A) (b : B) (xs : List A) (ys : List B) → length xs ≡ length ys → ((k : ℕ) → k < length ys → f (slice_index_or xs k a) ≡ g (slice_index_or ys k b)) → map f xs ≡ map g ys
mapped_alike f g a b [] [] len each = refl
mapped_alike f g a b [] (y ∷ ys) len each = absurd (omega (arith, len))
mapped_alike f g a b (x ∷ xs) [] len each = absurd (omega (arith, len))
mapped_alike f g a b (x ∷ xs) (y ∷ ys) len each =
    ap (λ v. v ∷ map f xs) (each 0 (omega arith)) ∙ ap (λ vs. g y ∷ vs) (mapped_alike f g a b xs ys (omega (arith, len)) (λ k lt. each (suc k) (omega (arith, lt))))

module _ (reach : Reach) (columns : List Span) (f : Follow columns) (ts : List Taken) (most : List ℕ → ℕ) (small : (q : List ℕ) → turnover_in q ts < 2 ^ 127 * 10 ^ (36 - most q)) where
  abbrev goes : Taken → Option ℕ
  goes t = place reach columns t.day

  -- a finished row shows the sums of what its columns count
  row_shows : (mine : Taken → Bool) (row : List Cell) → IsRow reach goes mine ts (length columns) most small row → map seen (finished reach row) ≡ map (λ column. mixed_in (filter (λ t. mine t && counts reach column t) ts)) columns
  row_shows mine row h =
      let holds = finish_holds reach goes mine ts (length columns) most small row h in
      mapped_alike seen (λ column. mixed_in (filter (λ t. mine t && counts reach column t) ts)) [] (record { from = 0; end = 0 }) (finished reach row) columns holds.columns
      (λ k lt.
      seen_is (cell_at (finished reach row) k) (filter (λ t. mine t && gathers reach k (goes t)) ts) most (holds.each k lt)
      ∙ ap mixed_in (chosen-same (λ t. mine t && gathers reach k (goes t)) (λ t. mine t && counts reach (part_at columns k) t) (λ t. ap (λ (b : Bool). mine t && b) (sym (counts-place reach columns f k lt t))) ts))

  any_account : (q : List ℕ) (us : List Taken) → list_any (eq_by_cmp account_cmp q) (map (λ (t : Taken). t.account) us) ≡ has_account q us
  any_account q [] = refl
  any_account q (u ∷ us) =
      ap (λ (b : Bool). b || list_any (eq_by_cmp account_cmp q) (map (λ (t : Taken). t.account) us)) (tie-account q u.account)
      ∙ ap (λ (b : Bool). bytes_eq u.account q || b) (any_account q us)

  module _ (rows : KeptRows) (h : IsGathered goes (length columns) most rows ts) where
    abbrev shown : List ℕ → List Sums
    shown account = map (λ column. cell reach ts column account) columns

    found_row : (o : Option (List Cell)) (q : List ℕ) → HoldsFound goes (length columns) most o q ts → mapped_option (λ (row : List Cell). map seen (finished reach row)) o ≡ cond (has_account q ts) (Some (shown q)) None
    found_row None q found = sym (ap (λ (b : Bool). cond b (Some (shown q)) None) found)
    found_row (Some row) q found =
        ap (λ (x : List Sums). Some x) (row_shows (λ t. bytes_eq t.account q) row found.0)
        ∙ sym (ap (λ (b : Bool). cond b (Some (shown q)) None) found.1)

    celled : (kept : KeptRows) → map row_seen (map (finished_row reach) kept) ≡ map (λ (e : List ℕ × List Cell). (e.0, map seen (finished reach e.1))) kept
    celled [] = refl
    celled (e ∷ kept) = ap (λ t. (e.0, map seen (finished reach e.1)) ∷ t) (celled kept)

    -- kept rows are the rows of the report
    pub rows_are : map row_seen (map (finished_row reach) rows) ≡ rows_in reach columns ts
    rows_are =
        let names = map (λ (t : Taken). t.account) ts in
        celled rows ∙ same_entries account_cmp account_total account_ties (map (λ (e : List ℕ × List Cell). (e.0, map seen (finished reach e.1))) rows) (rows_in reach columns ts)
        (sorted-mapped account_cmp (λ (row : List Cell). map seen (finished reach row)) rows h.ordered)
        (sorted-each_once account_ties shown account_total names)
        (λ q.
        find-mapped account_cmp (λ (row : List Cell). map seen (finished reach row)) rows q
        ∙ found_row (find account_cmp q rows) q (h.each q)
        ∙ sym (find-made account_ties shown (accounts_in ts) q ∙ ap (λ (b : Bool). cond b (Some (shown q)) None) (contains-each_once account_ties names q ∙ any_account q ts)))

    found_fits : (o : Option (List Cell)) (q : List ℕ) → HoldsFound goes (length columns) most o q ts → AllFound (FinishFits reach) o
    found_fits None q found = tt
    found_fits (Some row) q found = finish_fits reach goes (λ t. bytes_eq t.account q) ts (length columns) most small row found.0

    -- each row can be finished
    pub rows_finish : AllByRecursion (λ (e : List ℕ × List Cell). FinishFits reach e.1) rows
    rows_finish = all_from_found (FinishFits reach) rows h.ordered (λ q. found_fits (find account_cmp q rows) q (h.each q))
