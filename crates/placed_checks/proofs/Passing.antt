-- What is solved in a book passes its check by what accounts hold before its place.
use Rattle.std.proofs.Common.{◌≡◌, ℕ, Bool, true, false, ◌&&◌, ◌||◌, cond, not, List, [], Option, Some, None, Ok, is_none, refl, sym, ap, subst, ◌∙◌}
use Rattle.std.proofs.lemmas.Bool.{false≢true}
use Rattle.book.specs.declared.fault.Cause.{Cause}
use Rattle.book.specs.declared.transaction.Txn.{Txn}
use Rattle.entry_balance.specs.Entry.{assignment_fault, cause_alone, has_assignment, settled, solved, with_postings}
use Rattle.balancing.specs.Solves.{is_allowed}
use Rattle.reached_entries.specs.Reached.{IsSolved}
use Rattle.entry_check.specs.Checked.{Others, Told, checked, first_failing, in_order, judged, made, made_postings}
use Rattle.placed_checks.specs.Placed.{AreRight, IsPlaced, place_of}
use Rattle.placed_checks.proofs.Lists.{Parts, parted}
use Rattle.placed_checks.proofs.Making.{each_now, made_again}
use Rattle.placed_checks.proofs.Own.{place_at}
use Rattle.placed_checks.proofs.Refusing.{none_fails}
use Rattle.placed_checks.proofs.Solved.{alike_of, days_of}
use Rattle.placed_checks.proofs.Written.{all_made, none_marked, none_to_make}

-- what may have its assignments has them made
made_all : (told : Told) (w : Txn) → (a : Bool) (f : Option Cause) → has_assignment w.postings ≡ a → (not a || is_none f) ≡ true → cond (a && is_none f) (all_made told w) w ≡ all_made told w
made_all told w true None has h = refl
made_all told w true (Some c) has h = absurd (false≢true h)
made_all told w false f has h = ap (with_postings w) (sym (none_to_make told w.postings has []))

allowed_made : (told : Told) (w : Txn) → is_allowed w ≡ true → made told w ≡ all_made told w
allowed_made told w h = made_all told w (has_assignment w.postings) (assignment_fault w.postings) refl h

-- what is solved has its written day
pub same_day : (book : List Txn) (n : ℕ) (w t : Txn) → IsSolved book n w t → w.day ≡ t.day
same_day book n w t s = sym (ap (λ (x : Txn). x.day) s.found ∙ ap (λ (x : Txn). x.day) s.kept.rest)

-- the assignments of what is solved are made so by what accounts hold
made_solved : (told : Told) (others : Others) (book : List Txn) (n : ℕ) (w t : Txn) → IsPlaced told others book n w.day t → (s : IsSolved book n w t) → made told w ≡ s.made
made_solved told others book n w t h s =
    let m : Txn = s.made in
    let postings : t.postings ≡ solved m.postings = ap (λ (x : Txn). x.postings) s.found in
    let parts : Parts book n t = parted book n t h.there in
    let right : AreRight told others book (place_at t n 0) = subst (AreRight told others book) (ap (place_of n) (same_day book n w t s)) h.right in
    let each = each_now told others book parts.front parts.back t n parts.is parts.long (days_of t h.unmixed) h.few right s.assigned in
    let again : m.postings ≡ made_postings told [] w.postings = made_again told w.postings m.postings t (none_marked w.postings s.unmarked) s.kept.postings postings each in
    allowed_made told w s.allowed ∙ ap (with_postings w) (sym again) ∙ sym s.kept.rest

-- with all that balancing finds it is what is solved
pub settled_is : (told : Told) (others : Others) (book : List Txn) (n : ℕ) (w t : Txn) → IsPlaced told others book n w.day t → IsSolved book n w t → settled (made told w) ≡ t
settled_is told others book n w t h s = ap settled (made_solved told others book n w t h s) ∙ sym s.found

pub solved_passes : (told : Told) (others : Others) (book : List Txn) (n : ℕ) (w t : Txn) → IsPlaced told others book n w.day t → IsSolved book n w t → checked told others w ≡ Ok t
solved_passes told others book n w t h s =
    let m : Txn = s.made in
    let parts : Parts book n t = parted book n t h.there in
    let right : AreRight told others book (place_at t n 0) = subst (AreRight told others book) (ap (place_of n) (same_day book n w t s)) h.right in
    let none : first_failing told others [] (in_order t.postings) ≡ None = none_fails told others book parts.front parts.back t n parts.is parts.long (days_of t h.unmixed) h.few right (alike_of t h.unmixed) s.asserted in
    ap (λ (x : Txn). judged (settled x) (cause_alone x.postings) (first_failing told others [] (in_order (settled x).postings))) (made_solved told others book n w t h s)
    ∙ ap (λ (c : Option Cause). judged (settled m) c (first_failing told others [] (in_order (settled m).postings))) s.balanced
    ∙ ap (λ (x : Txn). judged x None (first_failing told others [] (in_order x.postings))) (sym s.found)
    ∙ ap (judged t None) none
