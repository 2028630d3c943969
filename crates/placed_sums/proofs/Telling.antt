-- What a book has before a place: its rows of the days before, and the postings of the day's earlier transactions.
use Rattle.std.proofs.Common.{◌≡◌, ℕ, ℤ, pos, suc, ◌+◌, ◌<◌, ◌≤◌, ◌+ℤ◌, Bool, true, false, ◌&&◌, ◌||◌, cond, eqb, ltb, List, [], ◌∷◌, ◌++◌, map, filter, slice_get, Option, Some, None, inl, inr, refl, sym, ap, ◌∙◌, arith}
use Rattle.std.specs.Prelude.{unwrap_or}
use Rattle.std.specs.List.{flat_map, list_any}
use Rattle.std.specs.Str.{bytes_eq}
use Rattle.std.proofs.lemmas.Bool.{cases_lt, false≢true}
use Rattle.std.proofs.lemmas.Bool.Decides.{nat_tests}
use Rattle.std.proofs.lemmas.Int.{ints}
use Rattle.std.proofs.lemmas.List.{append_assoc}
use Rattle.hl_num.specs.Decimal.{units_of}
use Rattle.book.specs.Sums.{share, sum_of}
use Rattle.book.specs.SumsBefore.{Place, is_before, is_of, number_in, placed_in, placed_from, sum_before}
use Rattle.book.specs.declared.amount.Amount.{Amount}
use Rattle.book.specs.declared.transaction.Posting.{Posting}
use Rattle.book.specs.declared.transaction.Txn.{Txn}
use Rattle.entry_balance.specs.Entry.{from_amount}
use Rattle.live_index.specs.Rows as rows
use Rattle.live_index.specs.declared.row.Row.{Row}
use Rattle.placed_sums.specs.Numbers.{earlier_on, has_on, is_on, numbered_from, numbers_from}
use Rattle.placed_sums.specs.Own.{is_posted, own_at, own_postings, own_under}
use Rattle.placed_sums.specs.Rows.{row_of, rows_of, rows_of_posting}

abbrev pub Entry : Type 0
Entry = Place × Posting

-- ---- numbers

none_add : (x : ℤ) → x ≡ pos 0 +ℤ x
none_add x = omega (arith, ints)

add_none : (x : ℤ) → x ≡ x +ℤ pos 0
add_none x = omega (arith, ints)

pub sum_both : (symbol : List ℕ) (xs ys : List Posting) → sum_of symbol (xs ++ ys) ≡ sum_of symbol xs +ℤ sum_of symbol ys
sum_both symbol [] ys = none_add (sum_of symbol ys)
sum_both symbol (x ∷ xs) ys = ap (λ (z : ℤ). share symbol x.amount +ℤ z) (sum_both symbol xs ys) ∙ assoc (share symbol x.amount) (sum_of symbol xs) (sum_of symbol ys)
  where
    assoc : (x y z : ℤ) → x +ℤ (y +ℤ z) ≡ (x +ℤ y) +ℤ z
    assoc x y z = omega (arith, ints)

-- a number where a test holds
abbrev when : Bool → ℤ → ℤ
when b z = cond b z (pos 0)

when_none : (b : Bool) → pos 0 ≡ when b (pos 0)
when_none true = refl
when_none false = refl

when_both : (b : Bool) (x y : ℤ) → when b (x +ℤ y) ≡ when b x +ℤ when b y
when_both true x y = refl
when_both false x y = none_add (pos 0)

-- a posting counts on an earlier day, or on the day where its transaction comes earlier; not both
parted : (x y w o : Bool) (z : ℤ) → (x && y) ≡ false → when ((x || (y && w)) && o) z ≡ when (x && o) z +ℤ when w (when (y && o) z)
parted true true w o z h = absurd (false≢true (sym h))
parted true false true o z h = add_none (when o z)
parted true false false o z h = add_none (when o z)
parted false true true o z h = none_add (when o z)
parted false true false o z h = none_add (pos 0)
parted false false true o z h = none_add (pos 0)
parted false false false o z h = none_add (pos 0)

summed : (all rest v a b kept more own next z : ℤ) → all ≡ v +ℤ rest → v ≡ a +ℤ b → rest ≡ kept +ℤ (own +ℤ z) → more ≡ a +ℤ kept → next ≡ b +ℤ own → all ≡ more +ℤ (next +ℤ z)
summed all rest v a b kept more own next z h1 h2 h3 h4 h5 = omega (arith, ints, h1, h2, h3, h4, h5)

-- ---- tests

or_none : (a b : Bool) → (a || (b && false)) ≡ a
or_none true b = refl
or_none false true = refl
or_none false false = refl

never_below : (n : ℕ) → ltb n 0 ≡ false
never_below n = grind (arith, nat_tests)

pub apart : (x d : ℕ) → (ltb x d && eqb x d) ≡ false
apart x d =
    elim (cases_lt x d) [
      | inl less ↦
          let a : eqb x d ≡ false = grind (arith, nat_tests) in
          ap (λ (t : Bool). ltb x d && t) a ∙ and_none (ltb x d)
      | inr more ↦
          let a : ltb x d ≡ false = grind (arith, nat_tests) in
          ap (λ (t : Bool). t && eqb x d) a
    ]
  where
    and_none : (b : Bool) → (b && false) ≡ false
    and_none true = refl
    and_none false = refl

-- ---- lists

-- a posting more, where it counts
some_more : (symbol : List ℕ) (p : Posting) (ps : List Posting) (b : Bool) → sum_of symbol (cond b (p ∷ ps) ps) ≡ when b (share symbol p.amount) +ℤ sum_of symbol ps
some_more symbol p ps true = refl
some_more symbol p ps false = none_add (sum_of symbol ps)

entry_more : (symbol : List ℕ) (at : Place) (p : Posting) (es : List Entry) (b : Bool) → sum_of symbol (map (λ (e : Entry). e.1) (cond b ((at, p) ∷ es) es)) ≡ when b (share symbol p.amount) +ℤ sum_of symbol (map (λ (e : Entry). e.1) es)
entry_more symbol at p es true = refl
entry_more symbol at p es false = none_add (sum_of symbol (map (λ (e : Entry). e.1) es))

-- its row
row_more : (row : Row) (rs : List Row) (s o l : Bool) → rows.total (cond ((s && o) && l) (row ∷ rs) rs) ≡ when (l && o) (when s (units_of row.value)) +ℤ rows.total rs
row_more row rs true true true = refl
row_more row rs true true false = none_add (rows.total rs)
row_more row rs true false true = none_add (rows.total rs)
row_more row rs true false false = none_add (rows.total rs)
row_more row rs false true true = none_add (rows.total rs)
row_more row rs false true false = none_add (rows.total rs)
row_more row rs false false true = none_add (rows.total rs)
row_more row rs false false false = none_add (rows.total rs)

nothing_more : (b : Bool) (z : ℤ) → z ≡ when b (pos 0) +ℤ z
nothing_more b z = none_add z ∙ ap (λ (x : ℤ). x +ℤ z) (when_none b)

module _ (symbol account : List ℕ) (below : Bool) (day n : ℕ) where
  abbrev place : Place
  place = record { day = day; txn = n; posting = 0 }

  abbrev counted : Entry → Bool
  counted e = is_before e.0 place && is_of account below e.1.account

  abbrev told : Row → Bool
  told row = rows.counts account symbol below row && ltb row.day.0 day

  abbrev told_sum : List Row → ℤ
  told_sum rs = rows.total (filter told rs)

  abbrev counted_sum : List Entry → ℤ
  counted_sum es = sum_of symbol (map (λ (e : Entry). e.1) (filter counted es))

  before_is : (f : Place) → is_before f place ≡ (ltb f.day day || (eqb f.day day && ltb f.txn n))
  before_is f =
      ap (λ (t : Bool). ltb f.day day || (eqb f.day day && (ltb f.txn n || (eqb f.txn n && t)))) (never_below f.posting)
      ∙ ap (λ (t : Bool). ltb f.day day || (eqb f.day day && t)) (or_none (ltb f.txn n) (eqb f.txn n))

  -- the row of a posting
  row_told : (t : Txn) (p : Posting) (o : Option Amount) (rs : List Row) → told_sum (from_amount (λ a. row_of t p a ∷ []) o ++ rs) ≡ when (ltb (unwrap_or p.day t.day).0 day && is_of account below p.account) (share symbol o) +ℤ told_sum rs
  row_told t p None rs = nothing_more (ltb (unwrap_or p.day t.day).0 day && is_of account below p.account) (told_sum rs)
  row_told t p (Some a) rs = row_more (row_of t p a) (filter told rs) (bytes_eq a.symbol symbol) (is_of account below p.account) (ltb (unwrap_or p.day t.day).0 day)

  one : (t : Txn) (m j : ℕ) (p : Posting) (es : List Entry) (rs : List Row) (ps : List Posting) (z : ℤ) → counted_sum es ≡ told_sum rs +ℤ (when (ltb m n) (sum_of symbol (filter (is_posted account below day t) ps)) +ℤ z)
      → counted_sum ((record { day = (unwrap_or p.day t.day).0; txn = m; posting = j }, p) ∷ es) ≡ told_sum (rows_of_posting t p ++ rs) +ℤ (when (ltb m n) (sum_of symbol (filter (is_posted account below day t) (p ∷ ps))) +ℤ z)
  one t m j p es rs ps z h =
      let at : Place = record { day = (unwrap_or p.day t.day).0; txn = m; posting = j } in
      let x = ltb (unwrap_or p.day t.day).0 day in
      let y = eqb (unwrap_or p.day t.day).0 day in
      let o = is_of account below p.account in
      let v = share symbol p.amount in
      let own = filter (is_posted account below day t) ps in
      let first : counted_sum ((at, p) ∷ es) ≡ when ((x || (y && ltb m n)) && o) v +ℤ counted_sum es =
      ap (λ (b : Bool). sum_of symbol (map (λ (e : Entry). e.1) (cond (b && o) ((at, p) ∷ filter counted es) (filter counted es)))) (before_is at)
      ∙ entry_more symbol at p (filter counted es) ((x || (y && ltb m n)) && o) in
      let last : when (ltb m n) (sum_of symbol (filter (is_posted account below day t) (p ∷ ps))) ≡ when (ltb m n) (when (y && o) v) +ℤ when (ltb m n) (sum_of symbol own) =
      ap (when (ltb m n)) (some_more symbol p own (y && o)) ∙ when_both (ltb m n) (when (y && o) v) (sum_of symbol own) in
      summed (counted_sum ((at, p) ∷ es)) (counted_sum es) (when ((x || (y && ltb m n)) && o) v) (when (x && o) v) (when (ltb m n) (when (y && o) v)) (told_sum rs) (told_sum (rows_of_posting t p ++ rs))
      (when (ltb m n) (sum_of symbol own)) (when (ltb m n) (sum_of symbol (filter (is_posted account below day t) (p ∷ ps)))) z
      first (parted x y (ltb m n) o v (apart (unwrap_or p.day t.day).0 day)) h (row_told t p p.amount rs) last

  in_txn : (t : Txn) (m k : ℕ) (ps : List Posting) (es : List Entry) (rs : List Row) (z : ℤ) → counted_sum es ≡ told_sum rs +ℤ z
      → counted_sum (placed_in t m k ps ++ es) ≡ told_sum (flat_map (rows_of_posting t) ps ++ rs) +ℤ (when (ltb m n) (sum_of symbol (filter (is_posted account below day t) ps)) +ℤ z)
  in_txn t m k [] es rs z h = h ∙ ap (λ (x : ℤ). told_sum rs +ℤ x) (nothing_more (ltb m n) z)
  in_txn t m k (p ∷ ps) es rs z h =
      one t m (number_in t k p) p (placed_in t m (suc k) ps ++ es) (flat_map (rows_of_posting t) ps ++ rs) ps z (in_txn t m (suc k) ps es rs z h)
      ∙ ap (λ (all : List Row). told_sum all +ℤ (when (ltb m n) (sum_of symbol (filter (is_posted account below day t) (p ∷ ps))) +ℤ z)) (sym (append_assoc (rows_of_posting t p) (flat_map (rows_of_posting t) ps) rs))

-- ---- the transactions of a day

or_left : (a b : Bool) → (a || b) ≡ false → a ≡ false
or_left true b h = h
or_left false b h = refl

or_right : (a b : Bool) → (a || b) ≡ false → b ≡ false
or_right true b h = absurd (false≢true (sym h))
or_right false b h = h

module _ (account : List ℕ) (below : Bool) (day : ℕ) where
  -- a transaction without a posting on the day has none of its own there
  pub none_own : (t : Txn) (ps : List Posting) → list_any (is_on day t) ps ≡ false → filter (is_posted account below day t) ps ≡ []
  none_own t [] h = refl
  none_own t (p ∷ ps) h =
      ap (λ (b : Bool). cond (b && is_of account below p.account) (p ∷ filter (is_posted account below day t) ps) (filter (is_posted account below day t) ps)) (or_left (is_on day t p) (list_any (is_on day t) ps) h)
      ∙ none_own t ps (or_right (is_on day t p) (list_any (is_on day t) ps) h)

  -- what stands under numbers from one on is what the transactions have
  abbrev pub AllStand : (ℕ → List Posting) → ℕ → List Txn → Type 0
  AllStand f m [] = Unit {0}
  AllStand f m (t ∷ ts) = (f m ≡ own_postings account below day t) × AllStand f (suc m) ts

  pub stand : (f : ℕ → List Posting) (m : ℕ) (ts : List Txn) → ((i : ℕ) → f (m + i) ≡ own_at account below day (slice_get ts i)) → AllStand f m ts
  stand f m [] h = tt
  stand f m (t ∷ ts) h =
      let here : m ≡ m + 0 = omega arith in
      (ap f here ∙ h 0, stand f (suc m) ts (λ i. let later : suc m + i ≡ m + suc i = omega arith in ap f later ∙ h (suc i)))

  pub stand_all : (book : List Txn) → AllStand (λ k. own_at account below day (slice_get book k)) 0 book
  stand_all book = stand (λ k. own_at account below day (slice_get book k)) 0 book (λ i. let same : 0 + i ≡ i = omega arith in ap (λ (k : ℕ). own_at account below day (slice_get book k)) same)

module _ (symbol account : List ℕ) (below : Bool) (day n : ℕ) (f : ℕ → List Posting) where
  abbrev of_day : List ℕ → ℤ
  of_day ks = sum_of symbol (flat_map f (filter (λ k. ltb k n) ks))

  number_more : (m : ℕ) (ks : List ℕ) → of_day (m ∷ ks) ≡ when (ltb m n) (sum_of symbol (f m)) +ℤ of_day ks
  number_more m ks =
      elim (ltb m n) as (λ b. sum_of symbol (flat_map f (cond b (m ∷ filter (λ k. ltb k n) ks) (filter (λ k. ltb k n) ks))) ≡ when b (sum_of symbol (f m)) +ℤ of_day ks) [
        | true ↦ sum_both symbol (f m) (flat_map f (filter (λ k. ltb k n) ks))
        | false ↦ none_add (of_day ks)
      ]

  first_number : (m : ℕ) (t : Txn) (ts : List Txn) → f m ≡ own_postings account below day t → when (ltb m n) (sum_of symbol (own_postings account below day t)) +ℤ of_day (numbers_from day (suc m) ts) ≡ of_day (numbers_from day m (t ∷ ts))
  first_number m t ts is = by (has_on day t) refl
    where
      by : (b : Bool) → has_on day t ≡ b → when (ltb m n) (sum_of symbol (own_postings account below day t)) +ℤ of_day (numbers_from day (suc m) ts) ≡ of_day (numbers_from day m (t ∷ ts))
      by true e =
          ap (λ (ps : List Posting). when (ltb m n) (sum_of symbol ps) +ℤ of_day (numbers_from day (suc m) ts)) (sym is)
          ∙ sym (number_more m (numbers_from day (suc m) ts))
          ∙ sym (ap (λ (b : Bool). of_day (map (λ (e : ℕ × Txn). e.0) (cond b ((m, t) ∷ filter (λ e. has_on day e.1) (numbered_from (suc m) ts)) (filter (λ e. has_on day e.1) (numbered_from (suc m) ts))))) e)
      by false e =
          ap (λ (ps : List Posting). when (ltb m n) (sum_of symbol ps) +ℤ of_day (numbers_from day (suc m) ts)) (none_own account below day t t.postings e)
          ∙ sym (nothing_more (ltb m n) (of_day (numbers_from day (suc m) ts)))
          ∙ sym (ap (λ (b : Bool). of_day (map (λ (e : ℕ × Txn). e.0) (cond b ((m, t) ∷ filter (λ e. has_on day e.1) (numbered_from (suc m) ts)) (filter (λ e. has_on day e.1) (numbered_from (suc m) ts))))) e)

  in_book : (m : ℕ) (ts : List Txn) → AllStand account below day f m ts → counted_sum symbol account below day n (placed_from m ts) ≡ told_sum symbol account below day n (rows_of ts) +ℤ of_day (numbers_from day m ts)
  in_book m [] h = refl
  in_book m (t ∷ ts) h =
      in_txn symbol account below day n t m 0 t.postings (placed_from (suc m) ts) (rows_of ts) (of_day (numbers_from day (suc m) ts)) (in_book (suc m) ts h.1)
      ∙ ap (λ (z : ℤ). told_sum symbol account below day n (rows_of (t ∷ ts)) +ℤ z) (first_number m t ts h.0)

-- the sum before a place is that of the rows of earlier days, and that of the day's earlier transactions
pub sum_parts : (book : List Txn) (account symbol : List ℕ) (below : Bool) (day n : ℕ) → sum_before book account symbol below (record { day = day; txn = n; posting = 0 }) ≡ rows.sum_before (rows_of book) account symbol below day +ℤ sum_of symbol (own_under book account below day (earlier_on day n book))
sum_parts book account symbol below day n = in_book symbol account below day n (λ k. own_at account below day (slice_get book k)) 0 book (stand_all account below day book)
