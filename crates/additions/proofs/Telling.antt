-- What entries come to that ask for nothing and are balanced is told.
use Rattle.std.proofs.Common.{◌≡◌, ℕ, ◌≤◌, Bool, true, cond, not, ltb, ◌&&◌, List, [], ◌∷◌, ◌++◌, map, Option, Some, None, is_none, Result, Ok, refl, ap, ◌∙◌, arith}
use Rattle.std.specs.List.{AllByRecursion, list_all}
use Rattle.std.proofs.lemmas.Bool.Decides.{nat_tests}
use Rattle.book.specs.Postings.{postings_of}
use Rattle.book.specs.declared.fault.Cause.{Cause}
use Rattle.book.specs.declared.fault.Fault.{Fault}
use Rattle.book.specs.declared.transaction.Posting.{Posting}
use Rattle.book.specs.declared.transaction.Txn.{Txn}
use Rattle.entry_balance.specs.Entry.{moved, settled}
use Rattle.entry_balance.specs.Settled.{lacks_sums}
use Rattle.entry_balance.specs.Tally.{turnover_fits}
use Rattle.entry_balance.specs.Values.{Value}
use Rattle.balancing.specs.Groups.{day_of}
use Rattle.balancing.specs.Load.{fault_at}
use Rattle.additions.specs.Apart.{IsQuietEntry, IsQuietPosting}
use Rattle.additions.specs.Coming.{added_to_book, are_quiet, first_unbalanced, has_sums, is_quiet_posting, unless_unbalanced}
use Rattle.additions.specs.Words.{first_at, first_day, first_in, or_sooner}
use Rattle.additions.proofs.Grouping.{fault_of, unbalanced_is}
use Rattle.additions.proofs.Judging.{apart_is}

late_is : (a b : ℕ) → a ≤ b → not (ltb b a) ≡ true
late_is a b h = grind (arith, nat_tests)

posting_quiet : (asked : ℕ) (t : Txn) (p : Posting) → IsQuietPosting asked t p → is_quiet_posting asked t p ≡ true
posting_quiet asked t p h =
    let late = late_is asked (day_of t p) h.late in
    λ i. is_none (h.no_balance i) && late i

postings_quiet : (asked : ℕ) (t : Txn) (ps : List Posting) → AllByRecursion (IsQuietPosting asked t) ps → list_all (is_quiet_posting asked t) ps ≡ true
postings_quiet asked t [] h = refl
postings_quiet asked t (p ∷ ps) h = λ i. posting_quiet asked t p h.0 i && postings_quiet asked t ps h.1 i

all_quiet : (asked : ℕ) (ts : List Txn) → AllByRecursion (IsQuietEntry asked) ts → are_quiet asked ts ≡ true
all_quiet asked [] h = refl
all_quiet asked (t ∷ ts) h = let here = postings_quiet asked t t.postings (h.0).postings in λ i. here i && all_quiet asked ts h.1 i

all_sums : (asked : ℕ) (ts : List Txn) → AllByRecursion (IsQuietEntry asked) ts → list_all has_sums ts ≡ true
all_sums asked [] h = refl
all_sums asked (t ∷ ts) h = let here = (h.0).balanced in λ i. not (lacks_sums (here i)) && all_sums asked ts h.1 i

none_first : (asked : ℕ) (ts : List Txn) → AllByRecursion (IsQuietEntry asked) ts → first_in ts ≡ None
none_first asked [] h = refl
none_first asked (t ∷ ts) h =
    ap (λ (c : Option Cause). or_sooner (first_at (first_day t) (fault_at t.line c)) (first_in ts)) (h.0).balanced ∙ none_first asked ts h.1

-- They are told as balancing leaves them.
pub quiet_told : (asked : ℕ) (assigned : Bool) (moves : List Value) (ts : List Txn) → AllByRecursion (IsQuietEntry asked) ts → turnover_fits (moves ++ moved (postings_of (map settled ts))) ≡ true → added_to_book asked assigned moves ts ≡ Ok (Some (map settled ts))
quiet_told asked assigned moves ts h fits =
    apart_is asked assigned moves ts (all_quiet asked ts h) (all_sums asked ts h)
    ∙ ap (λ (b : Bool). cond {A = Result (Option (List Txn)) Fault} b (unless_unbalanced assigned ts (first_unbalanced ts)) (Ok None)) fits
    ∙ ap (unless_unbalanced assigned ts) (unbalanced_is ts ∙ ap fault_of (none_first asked ts h))
