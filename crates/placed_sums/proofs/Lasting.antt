-- What stays of the days of a book, and how far its amounts go, where a transaction gets another form.
use Rattle.std.proofs.Common.{◌≡◌, ℕ, zero, suc, ◌+◌, ◌<◌, ◌≤◌, max, Bool, true, false, ◌&&◌, ◌||◌, cond, eqb, ltb, ◌==◌, List, [], ◌∷◌, ◌++◌, length, map, filter, set, slice_get, Some, refl, sym, ap, subst, ◌∙◌, arith}
use Rattle.std.specs.Prelude.{unwrap_or}
use Rattle.std.specs.List.{AllByRecursion, list_any}
use Rattle.std.proofs.lemmas.Bool.{false≢true}
use Rattle.std.proofs.lemmas.List.{append-nil}
use Rattle.std.proofs.lemmas.Option.{none-some, same_Some}
use Rattle.hl_time.specs.declared.day.Day.{Day}
use Rattle.book.specs.Bounds.{places_of, turnover}
use Rattle.book.specs.Postings.{postings_of}
use Rattle.book.specs.declared.transaction.Posting.{Posting}
use Rattle.book.specs.declared.transaction.Txn.{Txn}
use Rattle.placed_sums.specs.Days.{AreDaysOf, numbers_at, numbers_in, places_before}
use Rattle.placed_sums.specs.Numbers.{earlier_on, has_on, is_on, numbered_from, numbers_from, numbers_on}
use Rattle.placed_sums.specs.Replaced.{IsWithin}
use Rattle.placed_sums.specs.declared.on_day.OnDay.{OnDay}
use Rattle.placed_sums.proofs.Bounding.{places_both, turn_both}
use Rattle.placed_sums.proofs.Daily.{number_head, txn_head}

-- ---- the places of a day before a number

earlier_are : (day : Day) (n : ℕ) (places : List OnDay) → numbers_in (places_before day n places) ≡ filter (λ k. ltb k n) (numbers_at day.0 places)
earlier_are day n [] = refl
earlier_are day n (x ∷ xs) =
    by (eqb x.day.0 day.0) (ltb x.number n) refl refl (earlier_are day n xs)
    ∙ ap (filter (λ k. ltb k n)) (sym (number_head day.0 x xs))
  where
    by : (a b : Bool) → eqb x.day.0 day.0 ≡ a → ltb x.number n ≡ b → numbers_in (places_before day n xs) ≡ filter (λ k. ltb k n) (numbers_at day.0 xs) → numbers_in (cond (eqb x.day.0 day.0 && ltb x.number n) (x ∷ places_before day n xs) (places_before day n xs)) ≡ filter (λ k. ltb k n) (cond (eqb x.day.0 day.0) (x.number ∷ numbers_at day.0 xs) (numbers_at day.0 xs))
    by true true e f rest =
        (λ i. numbers_in (cond (e i && f i) (x ∷ places_before day n xs) (places_before day n xs)))
        ∙ ap (λ (ks : List ℕ). x.number ∷ ks) rest
        ∙ sym (ap (λ (t : Bool). filter (λ k. ltb k n) (cond t (x.number ∷ numbers_at day.0 xs) (numbers_at day.0 xs))) e ∙ ap (λ (t : Bool). cond t (x.number ∷ filter (λ k. ltb k n) (numbers_at day.0 xs)) (filter (λ k. ltb k n) (numbers_at day.0 xs))) f)
    by true false e f rest =
        (λ i. numbers_in (cond (e i && f i) (x ∷ places_before day n xs) (places_before day n xs)))
        ∙ rest
        ∙ sym (ap (λ (t : Bool). filter (λ k. ltb k n) (cond t (x.number ∷ numbers_at day.0 xs) (numbers_at day.0 xs))) e ∙ ap (λ (t : Bool). cond t (x.number ∷ filter (λ k. ltb k n) (numbers_at day.0 xs)) (filter (λ k. ltb k n) (numbers_at day.0 xs))) f)
    by false b e f rest =
        ap (λ (t : Bool). numbers_in (cond (t && ltb x.number n) (x ∷ places_before day n xs) (places_before day n xs))) e
        ∙ rest
        ∙ sym (ap (λ (t : Bool). filter (λ k. ltb k n) (cond t (x.number ∷ numbers_at day.0 xs) (numbers_at day.0 xs))) e)

pub earlier_told : (places : List OnDay) (book : List Txn) (day : Day) (number : ℕ) → AreDaysOf places book → numbers_in (places_before day number places) ≡ earlier_on day.0 number book
earlier_told places book day number days = earlier_are day number places ∙ ap (filter (λ k. ltb k number)) (days day.0)

-- ---- the days that stay

same_numbers : (d m k : ℕ) (ts : List Txn) (old new : Txn) → slice_get ts k ≡ Some old → has_on d new ≡ has_on d old → numbers_from d m (set ts k new) ≡ numbers_from d m ts
same_numbers d m k [] old new h same = absurd (none-some old h)
same_numbers d m zero (t ∷ ts) old new h same =
    let on : has_on d new ≡ has_on d t = same ∙ sym (ap (has_on d) (same_Some t old h)) in
    txn_head d m new ts
    ∙ ap (λ (b : Bool). cond b (m ∷ numbers_from d (suc m) ts) (numbers_from d (suc m) ts)) on
    ∙ sym (txn_head d m t ts)
same_numbers d m (suc k) (t ∷ ts) old new h same =
    txn_head d m t (set ts k new)
    ∙ ap (λ (ks : List ℕ). cond (has_on d t) (m ∷ ks) ks) (same_numbers d (suc m) k ts old new h same)
    ∙ sym (txn_head d m t ts)

pub days_stay_with : (places : List OnDay) (book : List Txn) (number : ℕ) (old new : Txn) → AreDaysOf places book → slice_get book number ≡ Some old → ((day : ℕ) → has_on day new ≡ has_on day old) → AreDaysOf places (set book number new)
days_stay_with places book number old new days h same d = days d ∙ sym (same_numbers d 0 number book old new h (same d))

blank_numbers : (d m : ℕ) (ts : List Txn) (blank : Txn) → blank.postings ≡ [] → numbers_from d m (ts ++ blank ∷ []) ≡ numbers_from d m ts
blank_numbers d m [] blank none =
    txn_head d m blank [] ∙ ap (λ (ps : List Posting). cond (list_any (is_on d blank) ps) (m ∷ []) []) none
blank_numbers d m (t ∷ ts) blank none =
    txn_head d m t (ts ++ blank ∷ [])
    ∙ ap (λ (ks : List ℕ). cond (has_on d t) (m ∷ ks) ks) (blank_numbers d (suc m) ts blank none)
    ∙ sym (txn_head d m t ts)

pub days_blank : (places : List OnDay) (book : List Txn) (blank : Txn) → AreDaysOf places book → blank.postings ≡ [] → AreDaysOf places (book ++ blank ∷ [])
days_blank places book blank days none d = days d ∙ sym (blank_numbers d 0 book blank none)

or_same : (b : Bool) → (b || b) ≡ b
or_same true = refl
or_same false = refl

within_all : (day : ℕ) (t : Txn) (p : Posting) (ps : List Posting) (d : ℕ) → (unwrap_or p.day t.day).0 ≡ day → AllByRecursion (λ q. (unwrap_or q.day t.day).0 ≡ day) ps → list_any (is_on d t) (p ∷ ps) ≡ eqb day d
within_all day t p [] d h all = or_none (eqb (unwrap_or p.day t.day).0 d) ∙ ap (λ (n : ℕ). eqb n d) h
  where
    or_none : (b : Bool) → (b || false) ≡ b
    or_none true = refl
    or_none false = refl
within_all day t p (q ∷ ps) d h all =
    (λ i. eqb (h i) d || within_all day t q ps d all.0 all.1 i) ∙ or_same (eqb day d)

-- a transaction all of whose postings are on one day has one on that day alone
pub within_on : (day : ℕ) (t : Txn) (d : ℕ) → IsWithin day t → 0 < length t.postings → has_on d t ≡ eqb day d
within_on day t d h some = by t.postings h some
  where
    by : (ps : List Posting) → AllByRecursion (λ q. (unwrap_or q.day t.day).0 ≡ day) ps → 0 < length ps → list_any (is_on d t) ps ≡ eqb day d
    by [] all some = absurd (omega (arith, some))
    by (p ∷ ps) all some = within_all day t p ps d all.0 all.1

-- ---- how far amounts go

pub set_turns : (symbol : List ℕ) (book : List Txn) (k : ℕ) (new : Txn) → turnover symbol (postings_of (set book k new)) ≤ turnover symbol (postings_of book) + turnover symbol new.postings
set_turns symbol [] k new = omega arith
set_turns symbol (t ∷ ts) zero new = omega (arith, turn_both symbol new.postings (postings_of ts), turn_both symbol t.postings (postings_of ts))
set_turns symbol (t ∷ ts) (suc k) new = omega (arith, turn_both symbol t.postings (postings_of (set ts k new)), turn_both symbol t.postings (postings_of ts), set_turns symbol ts k new)

pub set_places : (symbol : List ℕ) (book : List Txn) (k : ℕ) (new : Txn) → places_of symbol (postings_of (set book k new)) ≤ max (places_of symbol (postings_of book)) (places_of symbol new.postings)
set_places symbol [] k new = omega arith
set_places symbol (t ∷ ts) zero new = omega (arith, places_both symbol new.postings (postings_of ts), places_both symbol t.postings (postings_of ts))
set_places symbol (t ∷ ts) (suc k) new = omega (arith, places_both symbol t.postings (postings_of (set ts k new)), places_both symbol t.postings (postings_of ts), set_places symbol ts k new)
