-- What the sums of takings answer can be summed again: the columns of its rows, and the cells of a row of changes.
use Rattle.std.proofs.Common.{◌≡◌, ℕ, ℤ, pos, ◌+◌, ◌-◌, ◌*◌, ◌%◌, ◌^◌, ◌<◌, ◌≤◌, min, max, nat_le, nat_lt, ◌+ℤ◌, ◌*ℤ◌, unsigned_abs, Bool, true, false, ◌&&◌, ◌||◌, not, cond, T, List, [], ◌∷◌, ◌++◌, length, map, filter, find, Option, Some, None, ◌⊎◌, inl, inr, zero, suc, zero-mul, refl, sym, ap, subst, ◌∙◌, arith}
use Rattle.std.specs.List.{AllByRecursion, flat_map, list_any}
use Rattle.std.specs.declared.cmp.Ordering.TheVariants.{Less, Equal}
use Rattle.std.specs.Ordering.{eq_by_cmp, is_eq}
use Rattle.std.specs.Cmp.Lexicographic.{nat_list_cmp_total}
use Rattle.std.specs.FinMap.Entries.{below_all, is_sorted}
use Rattle.std.specs.Str.{bytes_eq}
use Rattle.std.proofs.lemmas.Bool.{false≢true, or_parts}
use Rattle.std.proofs.lemmas.Bool.Decides.{nat_tests}
use Rattle.std.proofs.lemmas.Cmp.{tied_itself}
use Rattle.std.proofs.lemmas.Int.{unsigned_abs-mul}
use Rattle.std.proofs.lemmas.Nat.{pow-add}
use Rattle.std.proofs.Math.Nat.{mul-mod_left}
use Rattle.hl_num.specs.Decimal.{Decimal, units_of}
use Rattle.hl_num.proofs.DecimalLemmas.{mul-add, mul-mul}
use Rattle.hl_num.proofs.RoundingLemmas.{pow_ten_positive}
use Rattle.hl_time.specs.Split.{part_at}
use Rattle.hl_time.specs.declared.spans.Span.{Span}
use Rattle.book.specs.Accounts.{account_cmp}
use Rattle.book.specs.Order.{each_once}
use Rattle.book.specs.Sums.{is_nonzero}
use Rattle.book.proofs.Accounts.{account_ties, account_total}
use Rattle.book.proofs.Entries.{text_ties, tie-bytes_eq}
use Rattle.book.proofs.Order.{contains-each_once, is_equal, sorted-each_once}
use Rattle.book.proofs.Places.{first, second, less}
use Rattle.report_cells.specs.Bounds.{TurnoverFits, first_out, is_out, places_at, places_in, turnover_in}
use Rattle.report_cells.specs.Follows.{Follow}
use Rattle.report_cells.specs.Report.{Sums, accounts_in, cell, counts, rows_in}
use Rattle.report_cells.specs.Taken.{Shared, Taken, mixed_in, share_in, sum_in, symbol_of, symbols_in}
use Rattle.report_cells.specs.declared.reach.Reach.{Reach}
use Rattle.report_cells.specs.declared.reach.Reach.TheVariants.{Within}
use Rattle.report_cells.proofs.Choosing.{chosen-le}
use Rattle.balance_rows.specs.Fitting.{ColumnsFit, Fit, IsWhole, RowFits, turnover}
use Rattle.balance_rows.specs.Rows.{Row, cell_at}
use Rattle.balance_rows.specs.Sums.{entries_of, share}
use Rattle.balance_rows.proofs.Deciding.{text_cmp}
use Rattle.balance_rows.proofs.Entries.{all-append, turnover-append}
use Rattle.balance_rows.proofs.Holding.{alike, bytes_eq-itself, share-itself}
use Rattle.balance_rows.proofs.TreesLaws.{map-twice}

-- ---- no symbol is out of range

abbrev is_in : List ℕ → List (List ℕ) → Bool
is_in q ks = list_any (eq_by_cmp text_cmp q) ks

none_found : (p : List ℕ → Bool) (ks : List (List ℕ)) (q : List ℕ) → find p ks ≡ None → is_in q ks ≡ true → p q ≡ false
none_found p [] q h there = absurd (false≢true there)
none_found p (k ∷ ks) q h there =
    elim (p k) as (λ b. p k ≡ b → cond b (Some k) (find p ks) ≡ None → p q ≡ false) [
      | true ↦ λ e n. absurd (let no : Some k ≡ None = n in cc no)
      | false ↦ λ e n. elim (eq_by_cmp text_cmp q k) as (λ b. eq_by_cmp text_cmp q k ≡ b → (b || is_in q ks) ≡ true → p q ≡ false) [
        | true ↦ λ t m. ap p (text_ties q k (is_equal _ t)) ∙ e
        | false ↦ λ t m. none_found p ks q n m
      ] refl there
    ] refl h

no_share : (q : List ℕ) (a : Option Shared) (more : List (List ℕ)) → is_in q (symbol_of a ++ more) ≡ false → (share_in q a ≡ pos 0) × (is_in q more ≡ false)
no_share q None more h = (refl, h)
no_share q (Some s) more h =
    let parts = or_parts (eq_by_cmp text_cmp q s.0) (is_in q more) h in
    (ap (λ (b : Bool). cond b (units_of s.1) (pos 0)) (sym (tie-bytes_eq q s.0) ∙ parts.0), parts.1)

no_turnover : (q : List ℕ) (ts : List Taken) → is_in q (flat_map (λ t. symbol_of t.amount) ts) ≡ false → turnover_in q ts ≡ 0
no_turnover q [] h = refl
no_turnover q (t ∷ ts) h =
    let parts = no_share q t.amount (flat_map (λ t. symbol_of t.amount) ts) h in
    omega (arith, ap unsigned_abs parts.0, no_turnover q ts parts.1)

not_le : (a b : ℕ) → nat_le a b ≡ false → b < a
not_le a b h = grind (arith, nat_tests)

pub turnover_fits : (ts : List Taken) → first_out ts ≡ None → TurnoverFits ts
turnover_fits ts none q =
    elim (is_in q (symbols_in ts)) as (λ b. is_in q (symbols_in ts) ≡ b → turnover_in q ts < 2 ^ 127 * 10 ^ (36 - places_in q ts)) [
      | true ↦ λ e. not_le (2 ^ 127 * 10 ^ (36 - places_in q ts)) (turnover_in q ts) (none_found (is_out ts) (symbols_in ts) q none e)
      | false ↦ λ e.
          let nothing : turnover_in q ts ≡ 0 = no_turnover q ts (sym (contains-each_once text_ties (flat_map (λ t. symbol_of t.amount) ts) q) ∙ e) in
          omega (arith, nothing, pow_ten_positive (36 - places_in q ts))
    ] refl

-- ---- each taking passes one of some tests

abbrev Test : Type 0
Test = Taken → Bool

-- no test passes it
abbrev NoneOf : Taken → List Test → Type 0
NoneOf t ps = AllByRecursion (λ (p : Test). p t ≡ false) ps

-- no more than one does
abbrev OnlyOne : Taken → List Test → Type 0
OnlyOne t [] = Unit {0}
OnlyOne t (p ∷ ps) = (p t ≡ true → NoneOf t ps) × OnlyOne t ps

module _ (q : List ℕ) where
  -- the absolute amount of a taking
  abbrev size : Taken → ℕ
  size t = unsigned_abs (share_in q t.amount)

  -- the absolute amounts of those that pass, a test after another
  abbrev by_tests : List Test → List Taken → ℕ
  by_tests [] ts = 0
  by_tests (p ∷ ps) ts = turnover_in q (filter p ts) + by_tests ps ts

  one_more : (p : Test) (t : Taken) (ts : List Taken) → turnover_in q (filter p (t ∷ ts)) ≤ size t + turnover_in q (filter p ts)
  one_more p t ts = elim (p t) as (λ b. turnover_in q (cond b (t ∷ filter p ts) (filter p ts)) ≤ size t + turnover_in q (filter p ts)) [
    | true ↦ omega arith
    | false ↦ omega arith
  ]

  none_more : (p : Test) (t : Taken) (ts : List Taken) → p t ≡ false → turnover_in q (filter p (t ∷ ts)) ≡ turnover_in q (filter p ts)
  none_more p t ts e = ap (λ (b : Bool). turnover_in q (cond b (t ∷ filter p ts) (filter p ts))) e

  by_none : (t : Taken) (ts : List Taken) (ps : List Test) → NoneOf t ps → by_tests ps (t ∷ ts) ≡ by_tests ps ts
  by_none t ts [] h = refl
  by_none t ts (p ∷ ps) h = omega (arith, none_more p t ts h.0, by_none t ts ps h.1)

  by_one : (t : Taken) (ts : List Taken) (ps : List Test) → OnlyOne t ps → by_tests ps (t ∷ ts) ≤ size t + by_tests ps ts
  by_one t ts [] h = omega arith
  by_one t ts (p ∷ ps) h = elim (p t) as (λ b. p t ≡ b → by_tests (p ∷ ps) (t ∷ ts) ≤ size t + by_tests (p ∷ ps) ts) [
    | true ↦ λ e. omega (arith, one_more p t ts, by_none t ts ps (h.0 e))
    | false ↦ λ e. omega (arith, none_more p t ts e, by_one t ts ps h.1)
  ] refl

  no_takings : (ps : List Test) → by_tests ps [] ≡ 0
  no_takings [] = refl
  no_takings (p ∷ ps) = omega (arith, no_takings ps)

  within_all : (ts : List Taken) (ps : List Test) → ((t : Taken) → OnlyOne t ps) → by_tests ps ts ≤ turnover_in q ts
  within_all [] ps h = omega (arith, no_takings ps)
  within_all (t ∷ ts) ps h = omega (arith, by_one t ts ps (h t), within_all ts ps h)

-- ---- the sums of some takings

module _ (q : List ℕ) (f : List ℕ → ℤ) where
  abbrev told : List (List ℕ) → Sums
  told ks = filter (λ (sum : List ℕ × ℤ). is_nonzero sum.1) (map (λ (k : List ℕ). (k, f k)) ks)

  other_share : (k : List ℕ) → bytes_eq k q ≡ false → share q (k, f k) ≡ pos 0
  other_share k differ = ap (λ (b : Bool). cond b (f k) (pos 0)) differ

  -- symbols that are all above one
  told-above : (ks : List (List ℕ)) → T (below_all text_cmp q (map (λ (k : List ℕ). (k, k)) ks)) → turnover q (told ks) ≡ 0
  told-above [] h = refl
  told-above (k ∷ ks) h =
      let none : share q (k, f k) ≡ pos 0 = other_share k (sym (tie-bytes_eq q k) ∙ ap is_eq (less _ (first _ _ h))) in
      elim (is_nonzero (f k)) as (λ b. turnover q (cond b ((k, f k) ∷ told ks) (told ks)) ≡ 0) [
        | true ↦ omega (arith, ap unsigned_abs none, told-above ks (second _ _ h))
        | false ↦ told-above ks (second _ _ h)
      ]

  told-le : (ks : List (List ℕ)) → T (is_sorted text_cmp (map (λ (k : List ℕ). (k, k)) ks)) → turnover q (told ks) ≤ unsigned_abs (f q)
  told-le [] h = omega arith
  told-le (k ∷ ks) h = elim (alike k q) [
    | inl same ↦
        let rest : turnover q (told ks) ≡ 0 = told-above ks (subst (λ (x : List ℕ). T (below_all text_cmp x (map (λ (k : List ℕ). (k, k)) ks))) same (first _ _ h)) in
        let here : share q (k, f k) ≡ f q = subst (λ (x : List ℕ). share q (x, f x) ≡ f q) (sym same) (share-itself q (f q)) in
        elim (is_nonzero (f k)) as (λ b. turnover q (cond b ((k, f k) ∷ told ks) (told ks)) ≤ unsigned_abs (f q)) [
          | true ↦ omega (arith, ap unsigned_abs here, rest)
          | false ↦ omega (arith, rest)
        ]
    | inr differ ↦
        let none : share q (k, f k) ≡ pos 0 = other_share k differ in
        elim (is_nonzero (f k)) as (λ b. turnover q (cond b ((k, f k) ∷ told ks) (told ks)) ≤ unsigned_abs (f q)) [
          | true ↦ omega (arith, ap unsigned_abs none, told-le ks (second _ _ h))
          | false ↦ told-le ks (second _ _ h)
        ]
  ]

  told-whole : (n : ℕ) → unsigned_abs (f q) % n ≡ 0 → (ks : List (List ℕ)) → AllByRecursion (λ (e : List ℕ × ℤ). unsigned_abs (share q e) % n ≡ 0) (told ks)
  told-whole n whole [] = tt
  told-whole n whole (k ∷ ks) =
      elim (is_nonzero (f k)) as (λ b. AllByRecursion (λ (e : List ℕ × ℤ). unsigned_abs (share q e) % n ≡ 0) (cond b ((k, f k) ∷ told ks) (told ks))) [
        | true ↦ (here (alike k q), told-whole n whole ks)
        | false ↦ told-whole n whole ks
      ]
    where
      here : (k ≡ q) ⊎ (bytes_eq k q ≡ false) → unsigned_abs (share q (k, f k)) % n ≡ 0
      here (inl same) = ap (λ (z : ℤ). unsigned_abs z % n) (subst (λ (x : List ℕ). share q (x, f x) ≡ f q) (sym same) (share-itself q (f q))) ∙ whole
      here (inr differ) = ap (λ (z : ℤ). unsigned_abs z % n) (other_share k differ) ∙ ap (λ (m : ℕ). m % n) (sym (zero-mul n)) ∙ mul-mod_left 0 n

mixed-le : (q : List ℕ) (ts : List Taken) → turnover q (mixed_in ts) ≤ turnover_in q ts
mixed-le q ts =
    let symbols = flat_map (λ t. symbol_of t.amount) ts in
    let whole : unsigned_abs (sum_in q ts) ≤ turnover_in q ts = sum-le ts in
    omega (arith, told-le q (λ (k : List ℕ). sum_in k ts) (symbols_in ts) (sorted-each_once text_ties (λ (k : List ℕ). k) nat_list_cmp_total symbols), whole)
  where
    all : (ts : List Taken) → filter (λ (t : Taken). true) ts ≡ ts
    all [] = refl
    all (t ∷ ts) = ap (λ (rest : List Taken). t ∷ rest) (all ts)

    sum-le : (ts : List Taken) → unsigned_abs (sum_in q ts) ≤ turnover_in q ts
    sum-le ts = subst (λ (us : List Taken). unsigned_abs (sum_in q us) ≤ turnover_in q ts) (all ts) (chosen-le q (λ (t : Taken). true) ts)

-- ---- with no more decimals than the takings have

record IsMultiple (z : ℤ) (n : ℕ) : Type 0 where
  times : ℤ
  is : z ≡ times *ℤ pos n

multiple-sum : (a b : ℤ) (n : ℕ) → IsMultiple a n → IsMultiple b n → IsMultiple (a +ℤ b) n
multiple-sum a b n f g = record { times = f.times +ℤ g.times; is = (λ i. f.is i +ℤ g.is i) ∙ sym (mul-add f.times g.times n) }

multiple-zero : (n : ℕ) → IsMultiple (pos 0) n
multiple-zero n = record { times = pos 0; is = sym (ap pos (zero-mul n)) }

multiple-units : (d : Decimal) (p : ℕ) → p ≤ 36 → min d.places 36 ≤ p → IsMultiple (units_of d) (10 ^ (36 - p))
multiple-units d p few more =
    let split : 36 - d.places ≡ ((36 - d.places) - (36 - p)) + (36 - p) = omega arith in
    record {
      times = d.mantissa *ℤ pos (10 ^ ((36 - d.places) - (36 - p)));
      is = sym (mul-mul d.mantissa (10 ^ ((36 - d.places) - (36 - p))) (10 ^ (36 - p))
          ∙ ap (λ (n : ℕ). d.mantissa *ℤ pos n) (sym (pow-add 10 ((36 - d.places) - (36 - p)) (36 - p)) ∙ ap (λ (k : ℕ). 10 ^ k) (sym split)));
    }

multiple-share : (q : List ℕ) (a : Option Shared) (p : ℕ) → p ≤ 36 → min (places_at q a) 36 ≤ p → IsMultiple (share_in q a) (10 ^ (36 - p))
multiple-share q None p few more = multiple-zero (10 ^ (36 - p))
multiple-share q (Some s) p few more =
    elim (bytes_eq s.0 q) as (λ b. min (cond b s.1.places 0) 36 ≤ p → IsMultiple (cond b (units_of s.1) (pos 0)) (10 ^ (36 - p))) [
      | true ↦ λ h. multiple-units s.1 p few h
      | false ↦ λ h. multiple-zero (10 ^ (36 - p))
    ] more

multiple-all : (q : List ℕ) (ts : List Taken) (p : ℕ) → p ≤ 36 → min (places_in q ts) 36 ≤ p → IsMultiple (sum_in q ts) (10 ^ (36 - p))
multiple-all q [] p few more = multiple-zero (10 ^ (36 - p))
multiple-all q (t ∷ ts) p few more =
    multiple-sum (share_in q t.amount) (sum_in q ts) (10 ^ (36 - p)) (multiple-share q t.amount p few (omega (arith, more))) (multiple-all q ts p few (omega (arith, more)))

places-filter : (q : List ℕ) (p : Taken → Bool) (ts : List Taken) → places_in q (filter p ts) ≤ places_in q ts
places-filter q p [] = omega arith
places-filter q p (t ∷ ts) = elim (p t) as (λ b. places_in q (cond b (t ∷ filter p ts) (filter p ts)) ≤ max (places_at q t.amount) (places_in q ts)) [
  | true ↦ omega (arith, places-filter q p ts)
  | false ↦ omega (arith, places-filter q p ts)
]

no_rest : (z : ℤ) (n : ℕ) → IsMultiple z n → unsigned_abs z % n ≡ 0
no_rest z n m = ap (λ (k : ℕ). k % n) (ap unsigned_abs m.is ∙ unsigned_abs-mul m.times (pos n)) ∙ mul-mod_left (unsigned_abs m.times) n

mixed-whole : (q : List ℕ) (p : Taken → Bool) (ts : List Taken) → AllByRecursion (IsWhole (min (places_in q ts) 36) q) (mixed_in (filter p ts))
mixed-whole q p ts =
    let most : ℕ = min (places_in q ts) 36 in
    told-whole q (λ (k : List ℕ). sum_in k (filter p ts)) (10 ^ (36 - most))
    (no_rest (sum_in q (filter p ts)) (10 ^ (36 - most)) (multiple-all q (filter p ts) most (omega arith) (omega (arith, places-filter q p ts))))
    (symbols_in (filter p ts))

-- ---- cells of takings that pass one of some tests

module _ (ts : List Taken) (fits : TurnoverFits ts) where
  abbrev cells_for : List Test → List Sums
  cells_for ps = map (λ (p : Test). mixed_in (filter p ts)) ps

  cells-le : (q : List ℕ) (ps : List Test) → turnover q (entries_of (cells_for ps)) ≤ by_tests q ps ts
  cells-le q [] = omega arith
  cells-le q (p ∷ ps) =
      omega (arith, turnover-append q (mixed_in (filter p ts)) (entries_of (cells_for ps)), mixed-le q (filter p ts), cells-le q ps)

  cells-whole : (q : List ℕ) (ps : List Test) → AllByRecursion (IsWhole (min (places_in q ts) 36) q) (entries_of (cells_for ps))
  cells-whole q [] = tt
  cells-whole q (p ∷ ps) =
      all-append (IsWhole (min (places_in q ts) 36) q) (mixed_in (filter p ts)) (entries_of (cells_for ps)) (mixed-whole q p ts) (cells-whole q ps)

  tests_fit : (ps : List Test) → ((t : Taken) → OnlyOne t ps) → Fit (entries_of (cells_for ps))
  tests_fit ps one q =
      let same : 36 - places_in q ts ≡ 36 - min (places_in q ts) 36 = omega arith in
      let bound : turnover_in q ts < 2 ^ 127 * 10 ^ (36 - min (places_in q ts) 36) = subst (λ (k : ℕ). turnover_in q ts < 2 ^ 127 * 10 ^ k) same (fits q) in
      record {
        places = min (places_in q ts) 36;
        few = omega arith;
        whole = cells-whole q ps;
        small = omega (arith, cells-le q ps, within_all q ts ps one, bound);
      }

-- ---- a column: the accounts

module _ (c : Taken → Bool) where
  -- those of an account that pass the test
  abbrev of : List ℕ → Test
  of k t = bytes_eq t.account k && c t

  other_name : (t : Taken) (k x : List ℕ) → t.account ≡ k → account_cmp k x ≡ Less → of x t ≡ false
  other_name t k x same lt = elim (alike t.account x) [
    | inl is ↦ absurd (let no : Less ≡ Equal = sym lt ∙ ap (account_cmp k) (sym is ∙ same) ∙ tied_itself account_total k in cc no)
    | inr differ ↦ ap (λ (b : Bool). b && c t) differ
  ]

  none_above : (t : Taken) (k : List ℕ) (ks : List (List ℕ)) → t.account ≡ k → T (below_all account_cmp k (map (λ (k : List ℕ). (k, k)) ks)) → NoneOf t (map of ks)
  none_above t k [] same h = tt
  none_above t k (x ∷ ks) same h = (other_name t k x same (less _ (first _ _ h)), none_above t k ks same (second _ _ h))

  own_name : (t : Taken) (k : List ℕ) → of k t ≡ true → t.account ≡ k
  own_name t k e = elim (alike t.account k) [
    | inl same ↦ same
    | inr differ ↦ absurd (false≢true (sym (ap (λ (b : Bool). b && c t) differ) ∙ e))
  ]

  one_account : (t : Taken) (ks : List (List ℕ)) → T (is_sorted account_cmp (map (λ (k : List ℕ). (k, k)) ks)) → OnlyOne t (map of ks)
  one_account t [] h = tt
  one_account t (k ∷ ks) h = (λ e. none_above t k ks (own_name t k e) (first _ _ h), one_account t ks (second _ _ h))

-- which column stands at a place, if there is one
record ColumnAt (columns : List Span) (at : ℕ) : Type 0 where
  column : Span
  is : (f : Span → Sums) → cell_at at (map f columns) ≡ f column

at_column : (columns : List Span) (at : ℕ) → ((f : Span → Sums) → cell_at at (map f columns) ≡ []) ⊎ ColumnAt columns at
at_column [] at = inl (λ f. refl)
at_column (column ∷ columns) zero = inr (record { column = column; is = λ f. refl })
at_column (column ∷ columns) (suc at) = elim (at_column columns at) [
  | inl none ↦ inl none
  | inr found ↦ inr (record { column = found.column; is = found.is })
]

no_entries : (ks : List (List ℕ)) → entries_of (map (λ (k : List ℕ). []) ks) ≡ []
no_entries [] = refl
no_entries (k ∷ ks) = no_entries ks

nothing_fits : Fit []
nothing_fits q = record { places = 36; few = omega arith; whole = tt; small = omega (arith, pow_ten_positive (36 - 36)) }

-- The columns of the rows that the sums of takings answer can be summed.
pub columns_fit : (reach : Reach) (columns : List Span) (ts : List Taken) → first_out ts ≡ None → ColumnsFit (rows_in reach columns ts)
columns_fit reach columns ts none at =
    let accounts = accounts_in ts in
    let at_each : List ℕ → Sums = λ k. cell_at at (map (λ (column : Span). cell reach ts column k) columns) in
    let cells : map (λ (row : Row). cell_at at row.1) (rows_in reach columns ts) ≡ map at_each accounts =
    map-twice (λ (row : Row). cell_at at row.1) (λ (k : List ℕ). (k, map (λ (column : Span). cell reach ts column k) columns)) accounts in
    subst (λ (t : List Sums). Fit (entries_of t)) (sym cells)
    (elim (at_column columns at) [
      | inl empty ↦ subst (λ (t : List Sums). Fit (entries_of t)) (λ i. map (λ (k : List ℕ). sym (empty (λ (column : Span). cell reach ts column k)) i) accounts)
          (subst Fit (sym (no_entries accounts)) nothing_fits)
      | inr found ↦
          let c = counts reach found.column in
          let sorted = sorted-each_once account_ties (λ (k : List ℕ). k) account_total (map (λ (t : Taken). t.account) ts) in
          subst (λ (t : List Sums). Fit (entries_of t))
          (map-twice (λ (p : Test). mixed_in (filter p ts)) (of c) accounts ∙ (λ i. map (λ (k : List ℕ). sym (found.is (λ (column : Span). cell reach ts column k)) i) accounts))
          (tests_fit ts (turnover_fits ts none) (map (of c) accounts) (λ t. one_account c t accounts sorted))
    ])

-- ---- a row: its columns, which follow one another

abbrev BeginFrom : ℕ → List Span → Type 0
BeginFrom day columns = AllByRecursion (λ (column : Span). day ≤ column.from) columns

abbrev AreInOrder : List Span → Type 0
AreInOrder [] = Unit {0}
AreInOrder (column ∷ columns) = BeginFrom column.end columns × AreInOrder columns

record AreJoined (columns : List Span) : Type 0 where
  joined : (at : ℕ) → at + 1 < length columns → (part_at columns at).end ≡ (part_at columns (at + 1)).from
  rising : (at : ℕ) → at + 1 < length columns → (part_at columns at).end ≤ (part_at columns (at + 1)).end

begin_later : (a b : ℕ) (columns : List Span) → a ≤ b → BeginFrom b columns → BeginFrom a columns
begin_later a b [] le h = tt
begin_later a b (column ∷ columns) le h = (omega (arith, le, h.0), begin_later a b columns le h.1)

joined-rest : (column : Span) (columns : List Span) → AreJoined (column ∷ columns) → AreJoined columns
joined-rest column columns h = record {
  joined = λ at within. subst (λ (k : ℕ). (part_at columns at).end ≡ (part_at (column ∷ columns) k).from) (next at) (h.joined (suc at) (omega (arith, within)));
  rising = λ at within. subst (λ (k : ℕ). (part_at columns at).end ≤ (part_at (column ∷ columns) k).end) (next at) (h.rising (suc at) (omega (arith, within)));
}
  where
    next : (at : ℕ) → suc at + 1 ≡ suc (at + 1)
    next at = omega arith

in_order : (columns : List Span) → AreJoined columns → AreInOrder columns
in_order [] h = tt
in_order (column ∷ []) h = (tt, tt)
in_order (column ∷ other ∷ columns) h =
    let rest : AreInOrder (other ∷ columns) = in_order (other ∷ columns) (joined-rest column (other ∷ columns) h) in
    let begins : column.end ≡ other.from = h.joined 0 (omega arith) in
    let ends : column.end ≤ other.end = h.rising 0 (omega arith) in
    ((omega (arith, begins), begin_later column.end other.end columns ends rest.0), rest)

module _ (k : List ℕ) where
  abbrev in_column : Span → Test
  in_column column t = bytes_eq t.account k && counts Within column t

  not_before : (t : Taken) (column : Span) → t.day < column.from → in_column column t ≡ false
  not_before t column h = ap (λ (b : Bool). bytes_eq t.account k && (b && nat_lt t.day column.end)) (le-no column.from t.day h) ∙ never (bytes_eq t.account k)
    where
      le-no : (a b : ℕ) → b < a → nat_le a b ≡ false
      le-no a b lt = grind (arith, nat_tests)

      never : (b : Bool) → (b && false) ≡ false
      never true = refl
      never false = refl

  none_later : (t : Taken) (day : ℕ) (columns : List Span) → t.day < day → BeginFrom day columns → NoneOf t (map in_column columns)
  none_later t day [] lt h = tt
  none_later t day (column ∷ columns) lt h = (not_before t column (omega (arith, lt, h.0)), none_later t day columns lt h.1)

  before_end : (a b : Bool) (day end : ℕ) → (a && (b && nat_lt day end)) ≡ true → day < end
  before_end true true day end h = lt-from day end h
    where
      lt-from : (a b : ℕ) → nat_lt a b ≡ true → a < b
      lt-from a b e = grind (arith, nat_tests)
  before_end true false day end h = absurd (false≢true h)
  before_end false b day end h = absurd (false≢true h)

  one_column : (t : Taken) (columns : List Span) → AreInOrder columns → OnlyOne t (map in_column columns)
  one_column t [] h = tt
  one_column t (column ∷ columns) h = (
    λ e. none_later t column.end columns (before_end (bytes_eq t.account k) (nat_le column.from t.day) t.day column.end e) h.0,
    one_column t columns h.1,
  )

-- The cells of each row of changes can be summed.
pub rows_fit : (columns : List Span) (ts : List Taken) → Follow columns → first_out ts ≡ None → AllByRecursion RowFits (rows_in Within columns ts)
rows_fit columns ts follow none = each (accounts_in ts)
  where
    order : AreInOrder columns
    order = in_order columns (record { joined = follow.joined; rising = follow.rising })

    one : (k : List ℕ) → Fit (entries_of (map (λ (column : Span). cell Within ts column k) columns))
    one k =
        subst (λ (t : List Sums). Fit (entries_of t)) (map-twice (λ (p : Test). mixed_in (filter p ts)) (in_column k) columns)
        (tests_fit ts (turnover_fits ts none) (map (in_column k) columns) (λ t. one_column k t columns order))

    each : (ks : List (List ℕ)) → AllByRecursion RowFits (map (λ (k : List ℕ). (k, map (λ (column : Span). cell Within ts column k) columns)) ks)
    each [] = tt
    each (k ∷ ks) = (one k, each ks)
