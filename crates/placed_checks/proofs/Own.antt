-- The postings of a transaction before its own places: where amounts were assigned, one that was missing comes last.
use Rattle.std.proofs.Common.{◌≡◌, ℕ, suc, ◌+◌, ◌<◌, ◌≤◌, Bool, true, false, ◌&&◌, ◌||◌, cond, not, eqb, ltb, List, [], ◌∷◌, ◌++◌, length, map, filter, is_some, refl, ap, ◌∙◌, subst, arith}
use Rattle.std.specs.Prelude.{unwrap_or}
use Rattle.std.specs.List.{AllByRecursion, list_any}
use Rattle.std.proofs.lemmas.Bool.Decides.{nat_tests}
use Rattle.std.proofs.lemmas.List.{append-nil, length-append, map-append}
use Rattle.std.proofs.lemmas.List.Elements.{filter-append}
use Rattle.book.specs.SumsBefore.{Place, is_assigned, is_before, is_of, number_in, placed_in}
use Rattle.book.specs.declared.transaction.Posting.{Posting}
use Rattle.book.specs.declared.transaction.Txn.{Txn}
use Rattle.balancing.specs.Groups.{day_of}
use Rattle.placed_checks.proofs.Elsewhere.{Entry, counted}
use Rattle.placed_checks.proofs.Lists.{all_first, all_rest}

-- a posting stands behind all others of its transaction, where amounts of it were assigned
abbrev pub late_by : Bool → Posting → Bool
late_by assigned p = assigned && p.filled && not (is_some p.wanted)

abbrev pub is_late : Txn → Posting → Bool
is_late t p = late_by (list_any is_assigned t.postings) p

-- those that don't
abbrev pub early : Txn → List Posting → List Posting
early t ps = filter (λ p. not (is_late t p)) ps

-- one more of those that are early, or late
pub early_takes : (t : Txn) (xs : List Posting) (p : Posting) → is_late t p ≡ false → early t (xs ++ p ∷ []) ≡ early t xs ++ p ∷ []
early_takes t xs p h =
    filter-append (λ q. not (is_late t q)) xs (p ∷ [])
    ∙ ap (λ (b : Bool). early t xs ++ cond (not b) (p ∷ []) []) h

pub early_skips : (t : Txn) (xs : List Posting) (p : Posting) → is_late t p ≡ true → early t (xs ++ p ∷ []) ≡ early t xs
early_skips t xs p h =
    filter-append (λ q. not (is_late t q)) xs (p ∷ [])
    ∙ ap (λ (b : Bool). early t xs ++ cond (not b) (p ∷ []) []) h
    ∙ append-nil (early t xs)

abbrev pub IsOnDay : Txn → Posting → Type 0
IsOnDay t p = day_of t p ≡ t.day.0

-- ---- which of them stand before a place

below_is : (k m : ℕ) → k < m → ltb k m ≡ true
below_is k m h = grind (arith, nat_tests)

above_is : (k m : ℕ) → m ≤ k → ltb k m ≡ false
above_is k m h = grind (arith, nat_tests)

low_is : (late : Bool) (all k m : ℕ) → m ≤ all → k < m → ltb (cond late (all + k) k) m ≡ not late
low_is true all k m few less = above_is (all + k) m (omega (arith, few))
low_is false all k m few less = below_is k m less

high_is : (late : Bool) (all k m : ℕ) → m ≤ all → m ≤ k → ltb (cond late (all + k) k) m ≡ false
high_is true all k m few more = above_is (all + k) m (omega (arith, few))
high_is false all k m few more = above_is k m more

one_kept : (b : Bool) (e : Entry) (es : List Entry) (qs : List Posting) → map (λ (e : Entry). e.1) es ≡ qs → map (λ (e : Entry). e.1) (cond b (e ∷ es) es) ≡ cond b (e.1 ∷ qs) qs
one_kept true e es qs h = ap (λ (ps : List Posting). e.1 ∷ ps) h
one_kept false e es qs h = h

both_kept : (of_it : Posting → Bool) (a : Bool) (e : Entry) (es : List Entry) (qs : List Posting) → map (λ (e : Entry). e.1) es ≡ filter of_it qs → map (λ (e : Entry). e.1) (cond (a && of_it e.1) (e ∷ es) es) ≡ filter of_it (cond a (e.1 ∷ qs) qs)
both_kept of_it true e es qs h = one_kept (of_it e.1) e es (filter of_it qs) h
both_kept of_it false e es qs h = h

module _ (t : Txn) (n : ℕ) where
  -- the place with a number in it, and a posting with its place
  abbrev pub place_at : ℕ → Place
  place_at j = record { day = t.day.0; txn = n; posting = j }

  abbrev pub entry_at : ℕ → Posting → Entry
  entry_at k p = (record { day = (unwrap_or p.day t.day).0; txn = n; posting = number_in t k p }, p)

  own_test : (j m : ℕ) → is_before (place_at j) (place_at m) ≡ ltb j m
  own_test j m =
      let a : ltb t.day.0 t.day.0 ≡ false = grind (arith, nat_tests) in
      let b : eqb t.day.0 t.day.0 ≡ true = grind (arith, nat_tests) in
      let c : ltb n n ≡ false = grind (arith, nat_tests) in
      let d : eqb n n ≡ true = grind (arith, nat_tests) in
      λ i. a i || (b i && (c i || (d i && ltb j m)))

  own_before : (k m : ℕ) (p : Posting) → IsOnDay t p → is_before (entry_at k p).0 (place_at m) ≡ ltb (number_in t k p) m
  own_before k m p on =
      ap (λ (day : ℕ). is_before (record { day = day; txn = n; posting = number_in t k p }) (place_at m)) on
      ∙ own_test (number_in t k p) m

  -- the place of one that isn't late
  pub early_place : (k : ℕ) (p : Posting) → IsOnDay t p → is_late t p ≡ false → (entry_at k p).0 ≡ place_at k
  early_place k p on h =
      let number : number_in t k p ≡ k = ap (λ (b : Bool). cond b (length t.postings + k) k) h in
      λ i. record { day = on i; txn = n; posting = number i }

  module _ (account : List ℕ) (below : Bool) where
    abbrev at : ℕ → Entry → Bool
    at = counted account below t.day.0 n

    abbrev of_it : Posting → Bool
    of_it p = is_of account below p.account

    -- those with lower numbers
    low_ones : (m k : ℕ) (xs : List Posting) → m ≤ length t.postings → k + length xs ≤ m → AllByRecursion (IsOnDay t) xs → map (λ (e : Entry). e.1) (filter (at m) (placed_in t n k xs)) ≡ filter of_it (early t xs)
    low_ones m k [] few h days = refl
    low_ones m k (p ∷ ps) few h days =
        let es : List Entry = filter (at m) (placed_in t n (suc k) ps) in
        let test : is_before (entry_at k p).0 (place_at m) ≡ not (is_late t p) = own_before k m p days.0 ∙ low_is (is_late t p) (length t.postings) k m few (omega (arith, h)) in
        ap (λ (b : Bool). map (λ (e : Entry). e.1) (cond (b && of_it p) (entry_at k p ∷ es) es)) test
        ∙ both_kept of_it (not (is_late t p)) (entry_at k p) es (early t ps) (low_ones m (suc k) ps few (omega (arith, h)) days.1)

    -- those with higher ones
    high_ones : (m k : ℕ) (ys : List Posting) → m ≤ length t.postings → m ≤ k → AllByRecursion (IsOnDay t) ys → map (λ (e : Entry). e.1) (filter (at m) (placed_in t n k ys)) ≡ []
    high_ones m k [] few h days = refl
    high_ones m k (p ∷ ps) few h days =
        let es : List Entry = filter (at m) (placed_in t n (suc k) ps) in
        let test : is_before (entry_at k p).0 (place_at m) ≡ false = own_before k m p days.0 ∙ high_is (is_late t p) (length t.postings) k m few h in
        ap (λ (b : Bool). map (λ (e : Entry). e.1) (cond (b && of_it p) (entry_at k p ∷ es) es)) test
        ∙ high_ones m (suc k) ps few (omega (arith, h)) days.1

    placed_more : (k : ℕ) (xs ys : List Posting) → placed_in t n k (xs ++ ys) ≡ placed_in t n k xs ++ placed_in t n (k + length xs) ys
    placed_more k [] ys = ap (λ (j : ℕ). placed_in t n j ys) (let same : k ≡ k + 0 = omega arith in same)
    placed_more k (x ∷ xs) ys =
        let next : suc k + length xs ≡ k + length (x ∷ xs) = omega arith in
        ap (λ (es : List Entry). entry_at k x ∷ es) (placed_more (suc k) xs ys ∙ ap (λ (j : ℕ). placed_in t n (suc k) xs ++ placed_in t n j ys) next)

    -- its postings of an account before the place of one
    pub own : (m : ℕ) (xs ys : List Posting) → t.postings ≡ xs ++ ys → length xs ≡ m → AllByRecursion (IsOnDay t) t.postings → map (λ (e : Entry). e.1) (filter (at m) (placed_in t n 0 t.postings)) ≡ filter of_it (early t xs)
    own m xs ys is long days =
        let both = subst (AllByRecursion (IsOnDay t)) is days in
        let whole : length t.postings ≡ length xs + length ys = ap length is ∙ length-append xs ys in
        let few : m ≤ length t.postings = omega (arith, whole, long) in
        let one = placed_in t n 0 xs in
        let two = placed_in t n (0 + length xs) ys in
        let first = low_ones m 0 xs few (omega (arith, long)) (all_first (IsOnDay t) xs ys both) in
        let second = high_ones m (0 + length xs) ys few (omega (arith, long)) (all_rest (IsOnDay t) xs ys both) in
        ap (λ (ps : List Posting). map (λ (e : Entry). e.1) (filter (at m) (placed_in t n 0 ps))) is
        ∙ ap (λ (es : List Entry). map (λ (e : Entry). e.1) (filter (at m) es)) (placed_more 0 xs ys)
        ∙ ap (map (λ (e : Entry). e.1)) (filter-append (at m) one two)
        ∙ map-append (λ (e : Entry). e.1) (filter (at m) one) (filter (at m) two)
        ∙ (λ i. first i ++ second i)
        ∙ append-nil (filter of_it (early t xs))
