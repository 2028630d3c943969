-- The assignments of a transaction are made by what accounts hold before it as they are in the journal up to its group.
use Rattle.std.proofs.Common.{◌≡◌, ℕ, Bool, true, false, ◌&&◌, ◌||◌, cond, not, List, [], ◌++◌, ◌∷◌, length, Option, Some, None, is_none, refl, sym, ap, ◌∙◌}
use Rattle.std.specs.List.{AllByRecursion, list_all}
use Rattle.std.proofs.lemmas.Bool.{false≢true}
use Rattle.book.specs.SumsBefore.{placed_in}
use Rattle.book.specs.declared.fault.Cause.{Cause}
use Rattle.book.specs.declared.transaction.Txn.{Txn}
use Rattle.entry_balance.specs.Entry.{assignment_fault, has_assignment, settled, with_postings}
use Rattle.balancing.specs.Faults.{IsMadeIf}
use Rattle.balancing.specs.Solves.{HaveFew, IsAssignedAt, is_allowed, is_unmarked}
use Rattle.entry_check.specs.Checked.{Others, Told, made, made_postings}
use Rattle.placed_checks.specs.Placed.{AreRight}
use Rattle.placed_checks.proofs.Making.{each_now, made_again}
use Rattle.placed_checks.proofs.Own.{IsOnDay, place_at}
use Rattle.placed_checks.proofs.Written.{all_made, none_marked, none_to_make}

made_all : (told : Told) (w : Txn) → (a : Bool) (f : Option Cause) → has_assignment w.postings ≡ a → (not a || is_none f) ≡ true → cond (a && is_none f) (all_made told w) w ≡ all_made told w
made_all told w true None has h = refl
made_all told w true (Some c) has h = absurd (false≢true h)
made_all told w false f has h = ap (with_postings w) (sym (none_to_make told w.postings has []))

made_none : (told : Told) (w : Txn) → (a n : Bool) → (not a || n) ≡ false → cond (a && n) (all_made told w) w ≡ w
made_none told w true true h = absurd (false≢true (sym h))
made_none told w true false h = refl
made_none told w false n h = absurd (false≢true (sym h))

pub day_is : (b : Bool) (w m : Txn) → IsMadeIf b w m → w.day ≡ m.day
day_is true w m h = sym (ap (λ (x : Txn). x.day) h.rest)
day_is false w m h = sym (ap (λ (x : Txn). x.day) h)

pub line_is : (b : Bool) (w m : Txn) → IsMadeIf b w m → w.line ≡ m.line
line_is true w m h = sym (ap (λ (x : Txn). x.line) h.rest)
line_is false w m h = sym (ap (λ (x : Txn). x.line) h)

module _ (told : Told) (others : Others) (book front back : List Txn) (w m : Txn) (n : ℕ) (is : book ≡ front ++ settled m ∷ back) (long : length front ≡ n) (days : AllByRecursion (IsOnDay (settled m)) (settled m).postings)
    (few : HaveFew book) (right : AreRight told others book (place_at (settled m) n 0)) (unmarked : list_all is_unmarked w.postings ≡ true) (assigned : AllByRecursion (IsAssignedAt book) (placed_in (settled m) n 0 (settled m).postings)) where
  made_by : (b : Bool) → is_allowed w ≡ b → IsMadeIf b w m → made told w ≡ m
  made_by true allowed kept =
      let each = each_now told others book front back (settled m) n is long days few right assigned in
      let again : m.postings ≡ made_postings told [] w.postings = made_again told w.postings m.postings (settled m) (none_marked w.postings unmarked) kept.postings refl each in
      made_all told w (has_assignment w.postings) (assignment_fault w.postings) refl allowed ∙ ap (with_postings w) (sym again) ∙ sym kept.rest
  made_by false allowed kept = made_none told w (has_assignment w.postings) (is_none (assignment_fault w.postings)) allowed ∙ sym kept

  pub made_is : IsMadeIf (is_allowed w) w m → made told w ≡ m
  made_is kept = made_by (is_allowed w) refl kept
