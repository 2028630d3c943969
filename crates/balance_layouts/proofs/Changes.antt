-- All cells of changes can be summed together, and all their totals.
use Rattle.std.proofs.Common.{◌≡◌, ℕ, ℤ, zero, suc, pos, ◌+◌, ◌-◌, ◌*◌, ◌%◌, ◌^◌, ◌<◌, ◌≤◌, min, max, nat_le, nat_lt, ◌+ℤ◌, ◌*ℤ◌, unsigned_abs, Bool, true, false, ◌&&◌, ◌||◌, cond, T, List, [], ◌∷◌, ◌++◌, length, map, filter, Option, Some, None, inl, inr, append_assoc, append-nil, zero-mul, refl, sym, ap, subst, ◌∙◌, arith}
use Rattle.std.specs.List.{AllByRecursion, flat_map, list_any}
use Rattle.std.specs.Str.{bytes_eq}
use Rattle.std.specs.Ordering.{nat_cmp}
use Rattle.std.specs.Cmp.Lexicographic.{slice_cmp}
use Rattle.std.specs.FinMap.Entries.{below_all, is_sorted}
use Rattle.std.specs.declared.cmp.Ordering.TheVariants.{Less, Equal}
use Rattle.std.proofs.lemmas.Bool.{false≢true}
use Rattle.std.proofs.lemmas.Bool.Decides.{nat_tests}
use Rattle.std.proofs.lemmas.Cmp.{tied_itself}
use Rattle.std.proofs.lemmas.Int.{unsigned_abs-mul}
use Rattle.std.proofs.lemmas.Nat.{pow-add}
use Rattle.std.proofs.Math.IntN.{+ℤ_idl}
use Rattle.std.proofs.Math.Nat.{mul-mod_left}
use Rattle.hl_num.specs.Decimal.{Decimal, units_of}
use Rattle.hl_num.proofs.DecimalLemmas.{mul-mul}
use Rattle.hl_time.specs.Split.{part_at}
use Rattle.hl_time.specs.declared.spans.Span.{Span}
use Rattle.book.specs.Accounts.{account_cmp}
use Rattle.book.specs.Order.{each_once}
use Rattle.book.specs.Sums.{is_nonzero}
use Rattle.book.proofs.Accounts.{account_ties, account_total}
use Rattle.book.proofs.Order.{sorted-each_once}
use Rattle.book.proofs.Places.{first, second, less}
use Rattle.report_cells.specs.Bounds.{first_out, places_at, places_in, turnover_in}
use Rattle.report_cells.specs.Follows.{Follow}
use Rattle.report_cells.specs.Report.{Sums, accounts_in, cell, counts, rows_in, totals_in}
use Rattle.report_cells.specs.Taken.{Shared, Taken, mixed_in, share_in, sum_in, symbol_of, symbols_in}
use Rattle.report_cells.specs.declared.reach.Reach.TheVariants.{Within}
use Rattle.balance_rows.specs.Fitting.{Fit, IsWhole, turnover}
use Rattle.balance_rows.specs.Sums.{entries_of, mixed_of, share, sum_of}
use Rattle.balance_rows.proofs.CellsFit.{turnover_fits}
use Rattle.balance_rows.proofs.Entries.{all-append}
use Rattle.balance_layouts.specs.Totals.{cells_of}
use Rattle.balance_rows.proofs.Holding.{alike}
use Rattle.balance_layouts.proofs.Mixing.{part-mixed}
use Rattle.balance_rows.proofs.Fits.{IsPart, fit_part, part-itself, part-none}
use Rattle.balance_rows.proofs.TreesLaws.{part-join}
use Rattle.balance_layouts.proofs.Parts.{part-skip, part-swap, part-then}

-- ---- what takings bring, as entries

abbrev share_entry : Option Shared → Sums
share_entry None = []
share_entry (Some s) = (s.0, units_of s.1) ∷ []

abbrev entries_in : List Taken → Sums
entries_in ts = flat_map (λ t. share_entry t.amount) ts

module _ (q : List ℕ) where
  turnover_one : (a : Option Shared) (rest : Sums) → turnover q (share_entry a ++ rest) ≡ unsigned_abs (share_in q a) + turnover q rest
  turnover_one None rest = omega arith
  turnover_one (Some s) rest = refl

  turnover_all : (ts : List Taken) → turnover q (entries_in ts) ≡ turnover_in q ts
  turnover_all [] = refl
  turnover_all (t ∷ ts) = turnover_one t.amount (entries_in ts) ∙ ap (λ (n : ℕ). unsigned_abs (share_in q t.amount) + n) (turnover_all ts)

  sum_one : (a : Option Shared) (rest : Sums) → share_in q a +ℤ sum_of q rest ≡ sum_of q (share_entry a ++ rest)
  sum_one None rest = +ℤ_idl (sum_of q rest)
  sum_one (Some s) rest = refl

  sum_all : (ts : List Taken) → sum_in q ts ≡ sum_of q (entries_in ts)
  sum_all [] = refl
  sum_all (t ∷ ts) = ap (λ (z : ℤ). share_in q t.amount +ℤ z) (sum_all ts) ∙ sum_one t.amount (entries_in ts)

symbols_one : (a : Option Shared) (rest : Sums) → symbol_of a ++ map (λ (e : List ℕ × ℤ). e.0) rest ≡ map (λ (e : List ℕ × ℤ). e.0) (share_entry a ++ rest)
symbols_one None rest = refl
symbols_one (Some s) rest = refl

symbols_all : (ts : List Taken) → flat_map (λ t. symbol_of t.amount) ts ≡ map (λ (e : List ℕ × ℤ). e.0) (entries_in ts)
symbols_all [] = refl
symbols_all (t ∷ ts) = ap (λ (more : List (List ℕ)). symbol_of t.amount ++ more) (symbols_all ts) ∙ symbols_one t.amount (entries_in ts)

mixed_is : (ts : List Taken) → mixed_in ts ≡ mixed_of (entries_in ts)
mixed_is ts = λ i.
    filter (λ (sum : List ℕ × ℤ). is_nonzero sum.1) (map (λ (q : List ℕ). (q, sum_all q ts i)) (each_once (slice_cmp nat_cmp) (symbols_all ts i)))

part-cell : (ts : List Taken) → IsPart (mixed_in ts) (entries_in ts)
part-cell ts = subst (λ (es : Sums). IsPart es (entries_in ts)) (sym (mixed_is ts)) (part-mixed (entries_in ts))

-- ---- they can be summed

whole_units : (d : Decimal) (p : ℕ) → p ≤ 36 → min d.places 36 ≤ p → unsigned_abs (units_of d) % 10 ^ (36 - p) ≡ 0
whole_units d p few more =
    let a : ℕ = 10 ^ ((36 - d.places) - (36 - p)) in
    let b : ℕ = 10 ^ (36 - p) in
    let split : 36 - d.places ≡ ((36 - d.places) - (36 - p)) + (36 - p) = omega (arith, few, more) in
    let made : units_of d ≡ d.mantissa *ℤ pos a *ℤ pos b =
    ap (λ (k : ℕ). d.mantissa *ℤ pos (10 ^ k)) split
    ∙ ap (λ (n : ℕ). d.mantissa *ℤ pos n) (pow-add 10 ((36 - d.places) - (36 - p)) (36 - p))
    ∙ sym (mul-mul d.mantissa a b) in
    ap (λ (n : ℕ). n % b) (ap unsigned_abs made ∙ unsigned_abs-mul (d.mantissa *ℤ pos a) (pos b)) ∙ mul-mod_left (unsigned_abs (d.mantissa *ℤ pos a)) b

nothing_left : (n : ℕ) → unsigned_abs (pos 0) % n ≡ 0
nothing_left n = ap (λ (m : ℕ). m % n) (sym (zero-mul n)) ∙ mul-mod_left 0 n

whole_one : (q : List ℕ) (a : Option Shared) (p : ℕ) → p ≤ 36 → min (places_at q a) 36 ≤ p → AllByRecursion (IsWhole p q) (share_entry a)
whole_one q None p few more = tt
whole_one q (Some s) p few more =
    elim (bytes_eq s.0 q) as (λ b. min (cond b s.1.places 0) 36 ≤ p → (unsigned_abs (cond b (units_of s.1) (pos 0)) % 10 ^ (36 - p) ≡ 0) × Unit {0}) [
      | true ↦ λ h. (whole_units s.1 p few h, tt)
      | false ↦ λ h. (nothing_left (10 ^ (36 - p)), tt)
    ] more

whole_all : (q : List ℕ) (ts : List Taken) (p : ℕ) → p ≤ 36 → min (places_in q ts) 36 ≤ p → AllByRecursion (IsWhole p q) (entries_in ts)
whole_all q [] p few more = tt
whole_all q (t ∷ ts) p few more =
    all-append (IsWhole p q) (share_entry t.amount) (entries_in ts)
    (whole_one q t.amount p few (omega (arith, more))) (whole_all q ts p few (omega (arith, more)))

entries_fit : (ts : List Taken) → first_out ts ≡ None → Fit (entries_in ts)
entries_fit ts none q =
    let most : ℕ = min (places_in q ts) 36 in
    let same : 36 - places_in q ts ≡ 36 - most = omega arith in
    let bound : turnover_in q ts < 2 ^ 127 * 10 ^ (36 - most) = subst (λ (k : ℕ). turnover_in q ts < 2 ^ 127 * 10 ^ k) same (turnover_fits ts none q) in
    record {
      places = most;
      few = omega arith;
      whole = whole_all q ts most (omega arith) (omega arith);
      small = omega (arith, turnover_all q ts, bound);
    }

-- ---- takings that pass one of two tests

abbrev Test : Type 0
Test = Taken → Bool

abbrev passed : Test → List Taken → Sums
passed p ts = entries_in (filter p ts)

module _ (p one two : Test) (apart : (t : Taken) → one t ≡ true → two t ≡ false) (ones : (t : Taken) → one t ≡ true → p t ≡ true) (twos : (t : Taken) → two t ≡ true → p t ≡ true) where
  abbrev choice : Taken → List Taken → Bool → Bool → Bool → Type 0
  choice t ts x y z =
      IsPart (entries_in (cond x (t ∷ filter one ts) (filter one ts)) ++ entries_in (cond y (t ∷ filter two ts) (filter two ts)))
      (entries_in (cond z (t ∷ filter p ts) (filter p ts)))

  split : (ts : List Taken) → IsPart (passed one ts ++ passed two ts) (passed p ts)
  split [] = part-none []
  split (t ∷ ts) =
      let e = share_entry t.amount in
      let rest = split ts in
      elim (one t) as (λ x. one t ≡ x → choice t ts x (two t) (p t)) [
        | true ↦ λ is.
            subst (λ (y : Bool). choice t ts true y (p t)) (sym (apart t is))
            (subst (λ (z : Bool). choice t ts true false z) (sym (ones t is))
            (subst (λ (es : Sums). IsPart es (e ++ passed p ts)) (sym (append_assoc e (passed one ts) (passed two ts)))
            (part-join e (passed one ts ++ passed two ts) e (passed p ts) (part-itself e) rest)))
        | false ↦ λ isnt.
            elim (two t) as (λ y. two t ≡ y → choice t ts false y (p t)) [
              | true ↦ λ is.
                  subst (λ (z : Bool). choice t ts false true z) (sym (twos t is))
                  (part-then (passed one ts ++ (e ++ passed two ts)) (e ++ (passed one ts ++ passed two ts)) (e ++ passed p ts)
                  (part-swap (passed one ts) e (passed two ts))
                  (part-join e (passed one ts ++ passed two ts) e (passed p ts) (part-itself e) rest))
              | false ↦ λ none.
                  elim (p t) as (λ z. choice t ts false false z) [
                    | true ↦ part-skip (passed one ts ++ passed two ts) e (passed p ts) rest
                    | false ↦ rest
                  ]
            ] refl
      ] refl

-- ---- columns that follow one another

-- each begins where the one before it ends, and ends no earlier
abbrev FollowFrom : ℕ → List Span → Type 0
FollowFrom low [] = Unit {0}
FollowFrom low (column ∷ columns) = (low ≤ column.from) × ((low ≤ column.end) × FollowFrom column.end columns)

record AreJoined (columns : List Span) : Type 0 where
  joined : (at : ℕ) → at + 1 < length columns → (part_at columns at).end ≡ (part_at columns (at + 1)).from
  rising : (at : ℕ) → at + 1 < length columns → (part_at columns at).end ≤ (part_at columns (at + 1)).end

joined-rest : (column : Span) (columns : List Span) → AreJoined (column ∷ columns) → AreJoined columns
joined-rest column columns h = record {
  joined = λ at within. subst (λ (k : ℕ). (part_at columns at).end ≡ (part_at (column ∷ columns) k).from) (next at) (h.joined (suc at) (omega (arith, within)));
  rising = λ at within. subst (λ (k : ℕ). (part_at columns at).end ≤ (part_at (column ∷ columns) k).end) (next at) (h.rising (suc at) (omega (arith, within)));
}
  where
    next : (at : ℕ) → suc at + 1 ≡ suc (at + 1)
    next at = omega arith

follow_on : (column : Span) (columns : List Span) → AreJoined (column ∷ columns) → FollowFrom column.end columns
follow_on column [] h = tt
follow_on column (other ∷ columns) h =
    let begins : column.end ≡ other.from = h.joined 0 (omega arith) in
    let ends : column.end ≤ other.end = h.rising 0 (omega arith) in
    (omega (arith, begins), (ends, follow_on other columns (joined-rest column (other ∷ columns) h)))

follow_all : (columns : List Span) → AreJoined columns → FollowFrom 0 columns
follow_all [] h = tt
follow_all (column ∷ columns) h = (omega arith, (omega arith, follow_on column columns h))

and_first : (a b : Bool) → (a && b) ≡ true → a ≡ true
and_first true b h = refl
and_first false b h = h

and_second : (a b : Bool) → (a && b) ≡ true → b ≡ true
and_second true b h = h
and_second false b h = absurd (false≢true h)

both : (a b : Bool) → a ≡ true → b ≡ true → (a && b) ≡ true
both a b h g = (λ i. h i && g i)

and_no : (a b : Bool) → b ≡ false → (a && b) ≡ false
and_no true b h = h
and_no false b h = refl

ends_later : (day end : ℕ) → nat_lt day end ≡ true → nat_le end day ≡ false
ends_later day end h = grind (arith, nat_tests)

begins_later : (low from day : ℕ) → low ≤ from → nat_le from day ≡ true → nat_le low day ≡ true
begins_later low from day h g = grind (arith, nat_tests)

module _ (a : Test) where
  abbrev in_column : Span → Test
  in_column column t = a t && counts Within column t

  abbrev from_day : ℕ → Test
  from_day low t = a t && nat_le low t.day

  columns_part : (ts : List Taken) (low : ℕ) (columns : List Span) → FollowFrom low columns
      → IsPart (entries_of (map (λ (column : Span). mixed_in (filter (in_column column) ts)) columns)) (passed (from_day low) ts)
  columns_part ts low [] h = part-none (passed (from_day low) ts)
  columns_part ts low (column ∷ columns) h =
      let one = mixed_in (filter (in_column column) ts) in
      let rest = entries_of (map (λ (column : Span). mixed_in (filter (in_column column) ts)) columns) in
      part-then (one ++ rest) (passed (in_column column) ts ++ passed (from_day column.end) ts) (passed (from_day low) ts)
      (part-join one rest (passed (in_column column) ts) (passed (from_day column.end) ts)
      (part-cell (filter (in_column column) ts)) (columns_part ts column.end columns h.1.1))
      (split (from_day low) (in_column column) (from_day column.end)
      (λ t is. and_no (a t) (nat_le column.end t.day) (ends_later t.day column.end (and_second (nat_le column.from t.day) (nat_lt t.day column.end) (and_second (a t) (counts Within column t) is))))
      (λ t is. both (a t) (nat_le low t.day) (and_first (a t) (counts Within column t) is)
      (begins_later low column.from t.day h.0 (and_first (nat_le column.from t.day) (nat_lt t.day column.end) (and_second (a t) (counts Within column t) is))))
      (λ t is. both (a t) (nat_le low t.day) (and_first (a t) (nat_le column.end t.day) is)
      (begins_later low column.end t.day h.1.0 (and_second (a t) (nat_le column.end t.day) is)))
      ts)

-- ---- accounts in their order

abbrev of_account : List ℕ → Test
of_account k t = bytes_eq t.account k && nat_le 0 t.day

abbrev of_some : List (List ℕ) → Test
of_some ks t = list_any (λ k. bytes_eq t.account k) ks

other_name : (t : Taken) (k x : List ℕ) → t.account ≡ k → account_cmp k x ≡ Less → bytes_eq t.account x ≡ false
other_name t k x same lt = elim (alike t.account x) [
  | inl is ↦ absurd (let no : Less ≡ Equal = sym lt ∙ ap (account_cmp k) (sym is ∙ same) ∙ tied_itself account_total k in cc no)
  | inr differ ↦ differ
]

none_above : (t : Taken) (k : List ℕ) (ks : List (List ℕ)) → t.account ≡ k → T (below_all account_cmp k (map (λ (k : List ℕ). (k, k)) ks)) → of_some ks t ≡ false
none_above t k [] same h = refl
none_above t k (x ∷ ks) same h = (λ i. other_name t k x same (less _ (first _ _ h)) i || none_above t k ks same (second _ _ h) i)

own_name : (t : Taken) (k : List ℕ) → bytes_eq t.account k ≡ true → t.account ≡ k
own_name t k e = elim (alike t.account k) [
  | inl same ↦ same
  | inr differ ↦ absurd (false≢true (sym differ ∙ e))
]

or_first : (a b : Bool) → a ≡ true → (a || b) ≡ true
or_first a b h = ap (λ (x : Bool). x || b) h

or_second : (a b : Bool) → b ≡ true → (a || b) ≡ true
or_second true b h = refl
or_second false b h = h

part-passed : (p : Test) (ts : List Taken) → IsPart (passed p ts) (entries_in ts)
part-passed p [] = part-none []
part-passed p (t ∷ ts) = elim (p t) as (λ b. IsPart (entries_in (cond b (t ∷ filter p ts) (filter p ts))) (entries_in (t ∷ ts))) [
  | true ↦ part-join (share_entry t.amount) (passed p ts) (share_entry t.amount) (entries_in ts) (part-itself (share_entry t.amount)) (part-passed p ts)
  | false ↦ part-skip (passed p ts) (share_entry t.amount) (entries_in ts) (part-passed p ts)
]

module _ (columns : List Span) (follow : FollowFrom 0 columns) (ts : List Taken) where
  abbrev row_of : List ℕ → Sums
  row_of k = entries_of (map (λ (column : Span). cell Within ts column k) columns)

  accounts_part : (ks : List (List ℕ)) → T (is_sorted account_cmp (map (λ (k : List ℕ). (k, k)) ks)) → IsPart (entries_of (map row_of ks)) (passed (of_some ks) ts)
  accounts_part [] h = part-none (passed (of_some []) ts)
  accounts_part (k ∷ ks) h =
      part-then (row_of k ++ entries_of (map row_of ks)) (passed (of_account k) ts ++ passed (of_some ks) ts) (passed (of_some (k ∷ ks)) ts)
      (part-join (row_of k) (entries_of (map row_of ks)) (passed (of_account k) ts) (passed (of_some ks) ts)
      (columns_part (λ (t : Taken). bytes_eq t.account k) ts 0 columns follow) (accounts_part ks (second _ _ h)))
      (split (of_some (k ∷ ks)) (of_account k) (of_some ks)
      (λ t is. none_above t k ks (own_name t k (and_first (bytes_eq t.account k) (nat_le 0 t.day) is)) (first _ _ h))
      (λ t is. or_first (bytes_eq t.account k) (of_some ks t) (and_first (bytes_eq t.account k) (nat_le 0 t.day) is))
      (λ t is. or_second (bytes_eq t.account k) (of_some ks t) is)
      ts)

  rows_cells : (ks : List (List ℕ)) → cells_of (map (λ (k : List ℕ). (k, map (λ (column : Span). cell Within ts column k) columns)) ks) ≡ entries_of (map row_of ks)
  rows_cells [] = refl
  rows_cells (k ∷ ks) = ap (λ (more : Sums). row_of k ++ more) (rows_cells ks)

  all_part : IsPart (cells_of (rows_in Within columns ts)) (entries_in ts)
  all_part =
      let ks = accounts_in ts in
      let sorted = sorted-each_once account_ties (λ (k : List ℕ). k) account_total (map (λ (t : Taken). t.account) ts) in
      subst (λ (es : Sums). IsPart es (entries_in ts)) (sym (rows_cells ks))
      (part-then (entries_of (map row_of ks)) (passed (of_some ks) ts) (entries_in ts)
      (accounts_part ks sorted) (part-passed (of_some ks) ts))

-- The cells of all rows of changes can be summed.
pub all_fit : (columns : List Span) (ts : List Taken) → Follow columns → first_out ts ≡ None → Fit (cells_of (rows_in Within columns ts))
all_fit columns ts follow none =
    fit_part (cells_of (rows_in Within columns ts)) (entries_in ts)
    (all_part columns (follow_all columns (record { joined = follow.joined; rising = follow.rising })) ts) (entries_fit ts none)

-- ---- the totals of all columns

abbrev every : Test
every t = true

totals_part : (columns : List Span) → FollowFrom 0 columns → (ts : List Taken) → IsPart (entries_of (totals_in Within columns ts)) (entries_in ts)
totals_part columns follow ts =
    part-then (entries_of (totals_in Within columns ts)) (passed (from_day every 0) ts) (entries_in ts)
    (columns_part every ts 0 columns follow) (part-passed (from_day every 0) ts)

-- The totals of all columns of changes can be summed.
pub totals_fit : (columns : List Span) (ts : List Taken) → Follow columns → first_out ts ≡ None → Fit (entries_of (totals_in Within columns ts))
totals_fit columns ts follow none =
    fit_part (entries_of (totals_in Within columns ts)) (entries_in ts)
    (totals_part columns (follow_all columns (record { joined = follow.joined; rising = follow.rising })) ts) (entries_fit ts none)
