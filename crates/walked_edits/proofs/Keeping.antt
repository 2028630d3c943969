-- What is kept of a book in which a transaction gets another form.
use Rattle.std.proofs.Common.{◌≡◌, ℕ, zero, suc, ◌<◌, nat_lt, Bool, true, false, cond, List, [], ◌∷◌, ◌++◌, length, set, slice_get, Some, refl, sym, ap, subst, ◌∙◌, arith}
use Rattle.std.specs.List.{list_any}
use Rattle.std.proofs.lemmas.Bool.{false≢true}
use Rattle.std.proofs.lemmas.Bool.Decides.{Decides-ltb}
use Rattle.std.proofs.lemmas.Option.{none-some, same_Some}
use Rattle.hl_time.specs.declared.day.Day.{Day}
use Rattle.book.specs.Postings.{postings_of}
use Rattle.book.specs.declared.transaction.Posting.{Posting}
use Rattle.book.specs.declared.transaction.Txn.{Txn}
use Rattle.kept_turnover.specs.Keeping.{Stays}
use Rattle.kept_turnover.specs.Keeping.{Replaces as Exchanges}
use Rattle.kept_turnover.specs.declared.turnover.Turnover.{Turnover}
use Rattle.kept_turnover.proofs.Ranged.{ranged}
use Rattle.entry_balance.specs.Entry.{moved}
use Rattle.live_index.specs.declared.row.Row.{Row}
use Rattle.placed_sums.specs.Numbers.{has_on, is_on, numbers_from}
use Rattle.placed_sums.specs.Replaced.{IsWithin, Replaces}
use Rattle.placed_sums.specs.Rows.{Stand}
use Rattle.placed_sums.proofs.Daily.{txn_head}
use Rattle.placed_sums.proofs.Lasting.{within_on}
use Rattle.shared_days.specs.Days.{numbers_now}
use Rattle.shared_days.specs.Days.{AreOf as AreDaysOf}
use Rattle.shared_days.specs.declared.days.SharedDays.{SharedDays}
use Rattle.walked_edits.specs.Keeping.{AreSums, Fits, IsHeld, IsTaken, IsWhole}
use Rattle.walked_edits.specs.Stepping.{HasLeft, LeavesDays}
use Rattle.walked_edits.specs.declared.kept.Kept.{Kept}
use Rattle.walked_edits.proofs.Turning.{vacated_turn}

-- ---- days

some_postings : (t : Txn) → nat_lt 0 (length t.postings) ≡ true → 0 < length t.postings
some_postings t h = (Decides-ltb 0 (length t.postings)).0 h

same_numbers : (d m k : ℕ) (ts : List Txn) (old new : Txn) → slice_get ts k ≡ Some old → has_on d new ≡ has_on d old → numbers_from d m (set ts k new) ≡ numbers_from d m ts
same_numbers d m k [] old new h same = absurd (none-some old h)
same_numbers d m zero (t ∷ ts) old new h same =
    let on : has_on d new ≡ has_on d t = same ∙ sym (ap (has_on d) (same_Some t old h)) in
    txn_head d m new ts
    ∙ ap (λ (b : Bool). cond b (m ∷ numbers_from d (suc m) ts) (numbers_from d (suc m) ts)) on
    ∙ sym (txn_head d m t ts)
same_numbers d m (suc k) (t ∷ ts) old new h same =
    txn_head d m t (set ts k new)
    ∙ ap (λ (ks : List ℕ). cond (has_on d t) (m ∷ ks) ks) (same_numbers d (suc m) k ts old new h same)
    ∙ sym (txn_head d m t ts)

days_stay_with : (days : SharedDays) (book : List Txn) (number : ℕ) (old new : Txn) → AreDaysOf book days → slice_get book number ≡ Some old → ((day : ℕ) → has_on day new ≡ has_on day old) → AreDaysOf (set book number new) days
days_stay_with days book number old new h was same = λ day. h day ∙ sym (same_numbers day.0 0 number book old new was (same day.0))

pub days_stay : (days : SharedDays) (book : List Txn) (number day : ℕ) (old new : Txn) → AreDaysOf book days → slice_get book number ≡ Some old → IsWithin day old → IsWithin day new → nat_lt 0 (length old.postings) ≡ true → nat_lt 0 (length new.postings) ≡ true → AreDaysOf (set book number new) days
days_stay days book number day old new h was of_old of_new some more =
    days_stay_with days book number old new h was (λ d.
    within_on day new d of_new (some_postings new more) ∙ sym (within_on day old d of_old (some_postings old some)))

-- two forms without postings are on no day
pub days_left : (days : SharedDays) (book : List Txn) (number : ℕ) (old held : Txn) → AreDaysOf book days → slice_get book number ≡ Some old → nat_lt 0 (length old.postings) ≡ false → held.postings ≡ [] → AreDaysOf (set book number held) days
days_left days book number old held h was none empty =
    days_stay_with days book number old held h was (λ d. ap (list_any (is_on d held)) empty ∙ sym (ap (list_any (is_on d old)) (no_items old.postings none)))
  where
    no_items : (ps : List Posting) → nat_lt 0 (length ps) ≡ false → ps ≡ []
    no_items [] h = refl
    no_items (p ∷ ps) h = absurd (false≢true (sym h ∙ (Decides-ltb 0 (length (p ∷ ps))).1 (omega arith)))

blank_numbers : (d m : ℕ) (ts : List Txn) (blank : Txn) → blank.postings ≡ [] → numbers_from d m (ts ++ blank ∷ []) ≡ numbers_from d m ts
blank_numbers d m [] blank none =
    txn_head d m blank [] ∙ ap (λ (ps : List Posting). cond (list_any (is_on d blank) ps) (m ∷ []) []) none
blank_numbers d m (t ∷ ts) blank none =
    txn_head d m t (ts ++ blank ∷ [])
    ∙ ap (λ (ks : List ℕ). cond (has_on d t) (m ∷ ks) ks) (blank_numbers d (suc m) ts blank none)
    ∙ sym (txn_head d m t ts)

-- nor is one behind a book
pub days_blank : (days : SharedDays) (book : List Txn) (blank : Txn) → AreDaysOf book days → blank.postings ≡ [] → AreDaysOf (book ++ blank ∷ []) days
days_blank days book blank h none = λ day. h day ∙ sym (blank_numbers day.0 0 book blank none)

-- a form is taken out of all that is kept
pub has_left : (number : ℕ) (old held : Txn) (before mid : Kept) (days : SharedDays) → IsTaken old held before mid → LeavesDays number old held mid.days days → HasLeft number old held before (record { index = mid.index; days = days; turnover = mid.turnover })
has_left number old held before mid days taken left = record {
  index = taken.index;
  turnover = taken.turnover;
  days = λ book was there. left book (subst (λ (d : SharedDays). AreDaysOf book d) (sym taken.days) was) there;
}

-- a copy has all of it
pub whole_copy : (book : List Txn) (kept copy : Kept) → copy.index ≡ kept.index → Stays kept.turnover copy.turnover → ((day : Day) → numbers_now day copy.days ≡ numbers_now day kept.days) → IsWhole book kept → IsWhole book copy
whole_copy book kept copy index turnover days whole = (
  record {
    stand = subst (λ (rows : List Row). Stand rows book) (sym index) whole.0.stand;
    turnover = turnover (moved (postings_of book)) whole.0.turnover;
    told = whole.0.told;
    fits = whole.0.fits;
  },
  λ day. days day ∙ whole.1 day,
)

-- ---- rows

-- the rows of a form can be taken off for one that moves nothing
pub can_vacate : (book : List Txn) (kept : Kept) (n : ℕ) (old blank : Txn) → AreSums book kept → blank.postings ≡ [] → slice_get book n ≡ Some old → Replaces kept.index old blank
can_vacate book kept n old blank h none was = record {
  book = book;
  number = n;
  kept = h.stand;
  is = was;
  fits = vacated_turn book kept n blank none h;
}

-- those of a form can be put in with which the turnover fits
pub can_put : (kept : Kept) (n : ℕ) (held form : Txn) (after : Turnover) → IsHeld kept n held → Exchanges held form kept.turnover after → Fits after → Replaces kept.index held form
can_put kept n held form after h turns fits =
    let moves = turns h.book n h.is h.turnover in
    record {
      book = h.book;
      number = n;
      kept = h.stand;
      is = h.is;
      fits = ranged (postings_of (set h.book n form)) moves.few (fits (moved (postings_of (set h.book n form))) moves);
    }
