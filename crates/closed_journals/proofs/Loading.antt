-- The text with one entry or both behind it loads, or one of them is out of range.
use Rattle.std.proofs.Common.{ℕ, zero, suc, ◌≡◌, ◌≤◌, true, false, cond, List, [], ◌∷◌, ◌++◌, map, Option, Some, None, Result, Ok, Err, refl, sym, ap, subst, ◌∙◌, arith}
use Rattle.std.specs.Prelude.{nat_lt, unwrap_or, filter}
use Rattle.std.specs.List.{flat_map, slice_get, AllByRecursion}
use Rattle.std.proofs.lemmas.Bool.Decides.{nat_tests}
use Rattle.std.proofs.lemmas.List.{map-append}
use Rattle.hl_time.specs.declared.day.Day.{Day}
use Rattle.hl_num.specs.Decimal.{Decimal}
use Rattle.book.specs.Postings.{txns_of}
use Rattle.book.specs.SumsBefore.{placed_from, placed_in}
use Rattle.book.specs.declared.amount.Amount.{Amount}
use Rattle.book.specs.declared.amount.Assertion.{Assertion}
use Rattle.book.specs.declared.fault.Cause.TheVariants as cause
use Rattle.book.specs.declared.fault.Fault.{Fault}
use Rattle.book.specs.declared.item.Book.{Book}
use Rattle.book.specs.declared.item.Placed.{Placed}
use Rattle.book.specs.declared.transaction.Posting.{Posting}
use Rattle.book.specs.declared.transaction.Txn.{Txn}
use Rattle.entry_balance.specs.Entry.{costed_posting, found_posting, is_assignable, needed, or_nothing, recorded_cost, settled, side_values, solved_posting}
use Rattle.entry_balance.specs.Tally.{sums_of}
use Rattle.entry_balance.specs.Values.{Value}
use Rattle.balancing.specs.Assigned.{assigned, assigned_by, given, given_at, given_from, given_posting, given_postings}
use Rattle.balancing.specs.Groups.{Group, day_of, groups_of}
use Rattle.balancing.specs.Load.{book_of, first_fault, or_told, load, loaded}
use Rattle.balancing.specs.Parts.{postings_of_group}
use Rattle.balancing.proofs.Given.{given_here, given_stays}
use Rattle.balancing.proofs.Solving.{own_book}
use Rattle.balancing.proofs.SolvingMade.{costed_alike}
use Rattle.balancing.proofs.SolvingRising.{all_left, all_right}
use Rattle.book_care.specs.Late.{At, first_late, first_placed, is_late, late_postings}
use Rattle.closed_journals.proofs.Ordered.{IsOnTime}
use Rattle.closed_journals.proofs.Walking.{Ends, EndsAlone, alone_out, alone_sound, sound, first_out, second_out, IsFollowed, IsFollowedBy, IsPlain, assigned_are, assigned_with_it, ends, ends_alone}

-- ---- days of postings

abbrev Timely : ℕ → At → Type 0
Timely on at = is_late on at ≡ false

none_kept : (on : ℕ) (es : List At) → filter (is_late on) es ≡ [] → AllByRecursion (Timely on) es
none_kept on [] h = tt
none_kept on (e ∷ es) h =
    elim (is_late on e) as (λ b. is_late on e ≡ b → cond b (e ∷ filter (is_late on) es) (filter (is_late on) es) ≡ [] → AllByRecursion (Timely on) (e ∷ es)) [
      | true ↦ λ k l. absurd (let never : ⊥ = cc in never)
      | false ↦ λ k l. (k, none_kept on es l)
    ] refl h

none_first : (es : List At) → first_placed es ≡ None → es ≡ []
none_first [] h = refl
none_first (e ∷ es) h = absurd (let never : ⊥ = cc in never)

at_most : (a b : ℕ) → nat_lt a b ≡ false → b ≤ a
at_most a b h = grind (arith, nat_tests)

placed_days : (on n k : ℕ) (t : Txn) (qs : List Posting) → AllByRecursion (Timely on) (placed_in t n k qs) → AllByRecursion (λ q. day_of t q ≤ on) qs
placed_days on n k t [] h = tt
placed_days on n k t (q ∷ qs) h = (at_most on (day_of t q) h.0, placed_days on n (suc k) t qs h.1)

first_found : (on : ℕ) (t : Txn) (p : Posting) (vs : List Value) → AllByRecursion (λ q. day_of t q ≤ on) (map (found_posting p) (or_nothing vs)) → day_of t p ≤ on
first_found on t p [] h = h.0
first_found on t p (v ∷ vs) h = h.0

found_day : (on : ℕ) (t : Txn) (all : List Posting) (p : Posting) (a : Option Amount) → AllByRecursion (λ q. day_of t q ≤ on) (solved_posting all p a) → day_of t p ≤ on
found_day on t all p None h = first_found on t p (needed (sums_of (side_values p.side all))) h
found_day on t all p (Some a) h =
    let same = (costed_alike (recorded_cost all) p).day in
    let there : day_of t (costed_posting (recorded_cost all) p) ≤ on = h.0 in
    subst (λ (d : Option Day). (unwrap_or d t.day).0 ≤ on) same there

found_days : (on : ℕ) (t : Txn) (all ps : List Posting) → AllByRecursion (λ q. day_of t q ≤ on) (flat_map (λ p. solved_posting all p p.amount) ps) → AllByRecursion (λ p. day_of t p ≤ on) ps
found_days on t all [] h = tt
found_days on t all (p ∷ ps) h = (
  found_day on t all p p.amount (all_left (λ q. day_of t q ≤ on) (solved_posting all p p.amount) (flat_map (λ p. solved_posting all p p.amount) ps) h),
  found_days on t all ps (all_right (λ q. day_of t q ≤ on) (solved_posting all p p.amount) (flat_map (λ p. solved_posting all p p.amount) ps) h),
)

settled_days : (on n : ℕ) (ts : List Txn) → AllByRecursion (Timely on) (placed_from n (map settled ts)) → AllByRecursion (IsOnTime on) ts
settled_days on n [] h = tt
settled_days on n (t ∷ ts) h = (
  found_days on t t.postings t.postings (placed_days on n 0 (settled t) (settled t).postings (all_left (Timely on) (placed_in (settled t) n 0 (settled t).postings) (placed_from (suc n) (map settled ts)) h)),
  settled_days on (suc n) ts (all_right (Timely on) (placed_in (settled t) n 0 (settled t).postings) (placed_from (suc n) (map settled ts)) h),
)

-- where none of a book's postings is late, none of its transactions' is, as they are written with their assignments
timely_book : (on : ℕ) (ts : List Txn) → first_late on (map settled ts) ≡ None → AllByRecursion (IsOnTime on) ts
timely_book on ts h = settled_days on 0 ts (none_kept on (placed_from 0 (map settled ts)) (none_first (late_postings on (map settled ts)) h))

-- ---- before assignments

given_day : (seen : List Posting) (p : Posting) (a : Option Amount) (w : Option Assertion) → (given_posting seen p a w).day ≡ p.day
given_day seen p (Some a) w = refl
given_day seen p None None = refl
given_day seen p None (Some w) = refl

given_days : (on : ℕ) (t : Txn) (seen ps : List Posting) → AllByRecursion (λ q. day_of t q ≤ on) (given_postings seen ps) → AllByRecursion (λ q. day_of t q ≤ on) ps
given_days on t seen [] h = tt
given_days on t seen (p ∷ ps) h =
    let q = given_posting seen p p.amount p.wanted in
    (subst (λ (d : Option Day). (unwrap_or d t.day).0 ≤ on) (given_day seen p p.amount p.wanted) h.0, given_days on t (seen ++ q ∷ []) ps h.1)

given_one : (on : ℕ) (seen : List Posting) (t : Txn) → IsOnTime on (given seen t) → IsOnTime on t
given_one on seen t h =
    elim (is_assignable t.postings) as (λ b. is_assignable t.postings ≡ b → IsOnTime on t) [
      | true ↦ λ e. given_days on t seen t.postings (subst (IsOnTime on) (given_here seen t e) h)
      | false ↦ λ e. subst (IsOnTime on) (given_stays seen t e) h
    ] refl

given_some : (on : ℕ) (seen : List Posting) (n : ℕ) (ts : List Txn) → AllByRecursion (IsOnTime on) (given_at seen n ts) → AllByRecursion (IsOnTime on) ts
given_some on seen n [] h = tt
given_some on seen zero (t ∷ ts) h = (given_one on seen t h.0, h.1)
given_some on seen (suc n) (t ∷ ts) h = (h.0, given_some on seen n ts h.1)

given_all : (on : ℕ) (ts : List Txn) (seen : List Posting) (gs : List Group) → AllByRecursion (IsOnTime on) (given_from ts seen gs) → AllByRecursion (IsOnTime on) ts
given_all on ts seen [] h = h
given_all on ts seen (g ∷ gs) h =
    let next = given_at seen g.1 ts in
    given_some on seen g.1 ts (given_all on next (seen ++ postings_of_group g.0 (slice_get next g.1)) gs h)

-- ---- the book

pub record IsLoaded (ts : List Txn) (fault : Option Fault) (book : Book) : Type 0 where
  pub none : fault ≡ None
  pub txns : book.txns ≡ map settled ts

pub loaded_is : (ts : List Txn) (fault : Option Fault) (book : Book) → loaded ts fault ≡ Ok book → IsLoaded ts fault book
loaded_is ts None book h = record { none = refl; txns = ap (λ (b : Book). b.txns) (let same : book ≡ record { txns = map settled ts } = cc in same) }
loaded_is ts (Some f) book h = absurd (let never : ⊥ = cc in never)

-- What becomes of the text with one entry.
pub data LoadsAlone (items : List Placed) (txns : List Txn) (one : Txn) : Type 0 where
  it_loads : load items ≡ Ok (record { txns = txns ++ one ∷ [] }) → LoadsAlone items txns one
  it_is_out : load items ≡ Err (record { line = one.line; cause = cause.Range }) → LoadsAlone items txns one

module _ (on : ℕ) (items more : List Placed) (book : Book) (one : Txn) (is : load items ≡ Ok book) (late : first_late on book.txns ≡ None)
    (behind : txns_of more ≡ txns_of items ++ one ∷ []) (day : one.day.0 ≡ on) (plain : IsPlain one) where
  abbrev written_before : List Txn
  written_before = txns_of items

  abbrev before_it : List Txn
  before_it = assigned written_before

  made_before : IsLoaded before_it (first_fault before_it [] [] (groups_of before_it)) book
  made_before = loaded_is before_it (first_fault before_it [] [] (groups_of before_it)) book (own_book _ _ book is)

  timely_before : AllByRecursion (IsOnTime on) before_it
  timely_before = timely_book on before_it (sym (ap (first_late on) made_before.txns) ∙ late)

  followed_by : (vs : List Txn) → AllByRecursion (IsOnTime on) vs → IsFollowedBy on vs one
  followed_by vs h = record { timely = h; day = day; plain = plain }

  assigned_whole : assigned (written_before ++ one ∷ []) ≡ before_it ++ one ∷ []
  assigned_whole = assigned_with_it on written_before one (followed_by written_before (given_all on written_before [] (groups_of written_before) timely_before))

  settled_whole : map settled (before_it ++ one ∷ []) ≡ book.txns ++ one ∷ []
  settled_whole =
      map-append settled before_it (one ∷ [])
      ∙ ap (λ (xs : List Txn). xs ++ settled one ∷ []) (sym made_before.txns)
      ∙ ap (λ (x : Txn). book.txns ++ x ∷ []) plain.settled_is

  -- what a fault with a sum would be told by
  abbrev other_book : Result Book Fault
  other_book = book_of (assigned_by (λ (d : Decimal). d) (txns_of more))

  start_whole : load more ≡ or_told (book_of (before_it ++ one ∷ [])) other_book
  start_whole = ap (λ (xs : List Txn). or_told (book_of (assigned xs)) other_book) behind ∙ ap (λ (xs : List Txn). or_told (book_of xs) other_book) assigned_whole

  by_end : EndsAlone (before_it ++ one ∷ []) one → LoadsAlone more book.txns one
  by_end (alone_sound e) = it_loads (start_whole ∙ ap (λ (o : Option Fault). or_told (loaded (before_it ++ one ∷ []) o) other_book) e ∙ ap (λ (xs : List Txn). Ok (record { txns = xs })) settled_whole)
  by_end (alone_out e) = it_is_out (start_whole ∙ ap (λ (o : Option Fault). or_told (loaded (before_it ++ one ∷ []) o) other_book) e)

  pub alone_load : LoadsAlone more book.txns one
  alone_load = by_end (ends_alone on before_it one (followed_by before_it timely_before) made_before.none)

-- What becomes of the text with both entries.
pub data Loads (items : List Placed) (txns : List Txn) (one two : Txn) : Type 0 where
  whole : load items ≡ Ok (record { txns = txns ++ one ∷ two ∷ [] }) → Loads items txns one two
  one_out : load items ≡ Err (record { line = one.line; cause = cause.Range }) → Loads items txns one two
  two_out : load items ≡ Err (record { line = two.line; cause = cause.Range }) → Loads items txns one two

module _ (on : ℕ) (items more : List Placed) (book : Book) (one two : Txn) (is : load items ≡ Ok book) (late : first_late on book.txns ≡ None)
    (behind : txns_of more ≡ txns_of items ++ one ∷ two ∷ []) (day_one : one.day.0 ≡ on) (day_two : two.day.0 ≡ suc on) (plain_one : IsPlain one) (plain_two : IsPlain two) where
  abbrev ws : List Txn
  ws = txns_of items

  abbrev ts : List Txn
  ts = assigned ws

  made : IsLoaded ts (first_fault ts [] [] (groups_of ts)) book
  made = loaded_is ts (first_fault ts [] [] (groups_of ts)) book (own_book _ _ book is)

  timely : AllByRecursion (IsOnTime on) ts
  timely = timely_book on ts (sym (ap (first_late on) made.txns) ∙ late)

  followed : (vs : List Txn) → AllByRecursion (IsOnTime on) vs → IsFollowed on vs one two
  followed vs h = record { timely = h; day_one = day_one; day_two = day_two; plain_one = plain_one; plain_two = plain_two }

  whole_assigned : assigned (ws ++ one ∷ two ∷ []) ≡ ts ++ one ∷ two ∷ []
  whole_assigned = assigned_are on ws one two (followed ws (given_all on ws [] (groups_of ws) timely))

  all_settled : map settled (ts ++ one ∷ two ∷ []) ≡ book.txns ++ one ∷ two ∷ []
  all_settled =
      map-append settled ts (one ∷ two ∷ [])
      ∙ ap (λ (xs : List Txn). xs ++ settled one ∷ settled two ∷ []) (sym made.txns)
      ∙ (λ i. book.txns ++ plain_one.settled_is i ∷ plain_two.settled_is i ∷ [])

  -- what a fault with a sum would be told by
  abbrev other : Result Book Fault
  other = book_of (assigned_by (λ (d : Decimal). d) (txns_of more))

  start : load more ≡ or_told (book_of (ts ++ one ∷ two ∷ [])) other
  start = ap (λ (xs : List Txn). or_told (book_of (assigned xs)) other) behind ∙ ap (λ (xs : List Txn). or_told (book_of xs) other) whole_assigned

  by : Ends (ts ++ one ∷ two ∷ []) one two → Loads more book.txns one two
  by (sound e) = whole (start ∙ ap (λ (o : Option Fault). or_told (loaded (ts ++ one ∷ two ∷ []) o) other) e ∙ ap (λ (xs : List Txn). Ok (record { txns = xs })) all_settled)
  by (first_out e) = one_out (start ∙ ap (λ (o : Option Fault). or_told (loaded (ts ++ one ∷ two ∷ []) o) other) e)
  by (second_out e) = two_out (start ∙ ap (λ (o : Option Fault). or_told (loaded (ts ++ one ∷ two ∷ []) o) other) e)

  pub both_load : Loads more book.txns one two
  both_load = by (ends on ts one two (followed ts timely) made.none)
