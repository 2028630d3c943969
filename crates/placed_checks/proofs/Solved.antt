-- What passes its check by what accounts hold before its place in a book is solved there.
use Rattle.std.proofs.Common.{◌≡◌, ℕ, Bool, true, false, ◌&&◌, ◌||◌, eqb, not, List, [], Option, Some, None, Ok, refl, sym, ap, subst, ◌∙◌}
use Rattle.std.specs.List.{AllByRecursion, find, list_all}
use Rattle.std.specs.Option.{option_map}
use Rattle.std.specs.Str.{bytes_eq}
use Rattle.std.proofs.lemmas.Bool.{eqb-true, false≢true}
use Rattle.book.specs.Sums.{mixed_of, sum_of}
use Rattle.book.specs.SumsBefore.{Place, is_of, sum_before}
use Rattle.book.specs.declared.amount.Assertion.{Assertion}
use Rattle.book.specs.declared.transaction.Posting.{Posting}
use Rattle.book.specs.declared.transaction.Txn.{Txn}
use Rattle.entry_balance.specs.Entry as amounts
use Rattle.entry_balance.specs.Entry.{cause_alone, settled, solved}
use Rattle.entry_balance.proofs.Named.{left_true, right_true}
use Rattle.hl_num.proofs.Trimmed.{trimmed-places}
use Rattle.balancing.specs.Groups.{day_of}
use Rattle.balancing.specs.Solves.{is_unmarked}
use Rattle.reached_entries.specs.Reached.{IsSolved}
use Rattle.entry_check.specs.Checked.{Others, Told, checked, first_failing, in_order, made, made_postings, others_before, told_before}
use Rattle.placed_checks.specs.Placed.{AreRight, IsPlaced, SameBefore, place_of}
use Rattle.placed_checks.specs.Judging.{IsJudged, IsSolvedWhere, answered, judged_as}
use Rattle.placed_checks.specs.declared.judge.Judged.{Judged}
use Rattle.placed_checks.specs.Unmixed.{are_alike, is_alike, is_single, is_unmixed}
use Rattle.placed_checks.proofs.Asserting.{IsAlike, Unmixed, all_hold}
use Rattle.placed_checks.proofs.Assigning.{all_assigned, early_assigned}
use Rattle.placed_checks.proofs.Held.{trimmed_is}
use Rattle.placed_checks.proofs.Lists.{Parts, all_map, all_tested, parted}
use Rattle.placed_checks.proofs.Ordered.{early_pass}
use Rattle.placed_checks.proofs.Own.{IsOnDay, place_at}
use Rattle.placed_checks.proofs.Written.{Passed, all_made, judged_ok, made_allowed, made_is, made_kept, none_marked}

-- ---- what the test says of each posting

alike_then : (a b : Bool) → (not a || b) ≡ true → a ≡ true → b ≡ true
alike_then true b h k = h
alike_then false b h k = absurd (false≢true k)

each_alike : (account : List ℕ) (w : Assertion) (q : Posting) → is_alike account w q ≡ true → IsAlike account w q
each_alike account w q h on = alike_then (is_of account w.below q.account) (amounts.is_of w.amount.symbol q.amount) h on

those_alike : (ps : List Posting) (account : List ℕ) (o : Option Assertion) → are_alike ps account o ≡ true → Unmixed ps account o
those_alike ps account None h = tt
those_alike ps account (Some w) h = λ on.
    all_map (λ q. is_alike account w q ≡ true) (IsAlike account w) (each_alike account w) ps (all_tested (is_alike account w) ps (alike_then w.only (list_all (is_alike account w) ps) h on))

single_day : (t : Txn) (p : Posting) → is_single t p ≡ true → IsOnDay t p
single_day t p h = eqb-true (day_of t p) t.day.0 (left_true (eqb (day_of t p) t.day.0) (are_alike t.postings p.account p.wanted) h)

single_alike : (t : Txn) (p : Posting) → is_single t p ≡ true → Unmixed t.postings p.account p.wanted
single_alike t p h = those_alike t.postings p.account p.wanted (right_true (eqb (day_of t p) t.day.0) (are_alike t.postings p.account p.wanted) h)

each_single : (t : Txn) → is_unmixed t ≡ true → AllByRecursion (λ p. is_single t p ≡ true) t.postings
each_single t h = all_tested (is_single t) t.postings h

pub days_of : (t : Txn) → is_unmixed t ≡ true → AllByRecursion (IsOnDay t) t.postings
days_of t h = all_map (λ p. is_single t p ≡ true) (IsOnDay t) (single_day t) t.postings (each_single t h)

pub alike_of : (t : Txn) → is_unmixed t ≡ true → AllByRecursion (λ p. Unmixed t.postings p.account p.wanted) t.postings
alike_of t h = all_map (λ p. is_single t p ≡ true) (λ p. Unmixed t.postings p.account p.wanted) (single_alike t) t.postings (each_single t h)

-- ---- what passes is solved

pub placed_is_solved : (told : Told) (others : Others) (book : List Txn) (n : ℕ) (w t : Txn) → IsPlaced told others book n w.day t → list_all is_unmarked w.postings ≡ true → checked told others w ≡ Ok t → IsSolved book n w t
placed_is_solved told others book n w t h unmarked passes =
    let m : Txn = made told w in
    let passed : Passed (settled m) t (cause_alone m.postings) (first_failing told others [] (in_order (settled m).postings)) =
    judged_ok (settled m) t (cause_alone m.postings) (first_failing told others [] (in_order (settled m).postings)) passes in
    let made_all : m ≡ all_made told w = made_is told w passed.alone in
    let solved_is : t ≡ settled (all_made told w) = sym passed.is ∙ ap settled made_all in
    let postings : t.postings ≡ solved (made_postings told [] w.postings) = ap (λ (x : Txn). x.postings) solved_is in
    let parts : Parts book n t = parted book n t h.there in
    let day : place_of n w.day ≡ place_at t n 0 = ap (λ (x : Txn). place_of n x.day) (sym solved_is) in
    let days = days_of t h.unmixed in
    let right : AreRight told others book (place_at t n 0) = subst (AreRight told others book) day h.right in
    let none : first_failing told others [] (in_order t.postings) ≡ None = ap (λ (x : Txn). first_failing told others [] (in_order x.postings)) (sym passed.is) ∙ passed.none in
    let P : Txn → Type 0 = λ x. cause_alone x.postings ≡ None in
    record {
      unmarked = unmarked;
      allowed = made_allowed told w passed.alone;
      made = all_made told w;
      kept = made_kept told w;
      balanced = subst P made_all passed.alone;
      found = solved_is;
      assigned = all_assigned told others book parts.front parts.back t n parts.is parts.long days h.few right (early_assigned told w.postings t (none_marked w.postings unmarked) postings);
      asserted = all_hold told others book parts.front parts.back t n parts.is parts.long days h.few right (alike_of t h.unmixed) (early_pass told others t none);
    }

-- ---- what is told

-- the sums of a book before a place, with as few decimals as they need, are right in each book that has the same postings
-- before it
pub same_are_right : (one two : List Txn) (place : Place) → SameBefore one two place → AreRight (told_before one place) (others_before one place) two place
same_are_right one two place same = record {
  sums = λ below account symbol. trimmed_is (sum_before one account symbol below place) ∙ ap (sum_of symbol) (same account below);
  few = λ below account symbol. trimmed-places (sum_before one account symbol below place) 36;
  beside = λ below account symbol.
      ap (λ (ps : List Posting). option_map (λ sum. sum.0) (find (λ sum. not (bytes_eq sum.0 symbol)) (mixed_of ps))) (same account below);
}

-- ---- a check by the sums of one book, in another

pub solved_where : (book : List Txn) (place : Place) (w t : Txn) → list_all is_unmarked w.postings ≡ true → is_unmixed t ≡ true → checked (told_before book place) (others_before book place) w ≡ Ok t → IsSolvedWhere book place w t
solved_where book place w t unmarked unmixed passes after n at few there same =
    placed_is_solved (told_before book place) (others_before book place) after n w t (record {
      there = there;
      few = few;
      unmixed = unmixed;
      right = subst (λ (p : Place). AreRight (told_before book place) (others_before book place) after p) at (same_are_right book after place same);
    }) unmarked passes

pub judged_right : (book : List Txn) (place : Place) (w t : Txn) (unmarked : Bool) (r : Judged) → checked (told_before book place) (others_before book place) w ≡ Ok t → unmarked ≡ list_all is_unmarked w.postings → r ≡ judged_as (unmarked && is_unmixed t) t → IsJudged book place w r
judged_right book place w t unmarked r passes is so = by (unmarked && is_unmixed t) refl so
  where
    by : (b : Bool) → (unmarked && is_unmixed t) ≡ b → r ≡ judged_as b t → IsJudged book place w r
    by true e h =
        subst (IsJudged book place w) (sym h)
        (solved_where book place w t (sym is ∙ left_true unmarked (is_unmixed t) e) (right_true unmarked (is_unmixed t) e) passes)
    by false e h = subst (IsJudged book place w) (sym h) tt

-- what was answered, whatever is known of it
answered_as : (b : Bool) (t : Txn) → answered (judged_as b t) ≡ t
answered_as true t = refl
answered_as false t = refl

pub answered_is : (b : Bool) (t : Txn) (r : Judged) → r ≡ judged_as b t → answered r ≡ t
answered_is b t r so = ap answered so ∙ answered_as b t

pub answer_right : (told : Told) (others : Others) (w t : Txn) (b : Bool) (r : Judged) → checked told others w ≡ Ok t → r ≡ judged_as b t → checked told others w ≡ Ok (answered r)
answer_right told others w t b r is so = is ∙ ap (λ (x : Txn). Ok x) (sym (answered_is b t r so))

pub mixed_right : (w t : Txn) (unmarked : Bool) (r : Judged) → unmarked ≡ list_all is_unmarked w.postings → r ≡ judged_as (unmarked && is_unmixed t) t → r ≡ judged_as (list_all is_unmarked w.postings && is_unmixed (answered r)) (answered r)
mixed_right w t unmarked r is so =
    let same = answered_is (unmarked && is_unmixed t) t r so in
    so ∙ (λ i. judged_as (is i && is_unmixed (sym same i)) (sym same i))
