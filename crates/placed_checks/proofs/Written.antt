-- What a check that passes says of the transaction as it is written.
use Rattle.std.proofs.Common.{◌≡◌, Bool, true, false, ◌&&◌, ◌||◌, cond, not, List, [], ◌∷◌, ◌++◌, Option, Some, None, Ok, is_none, is_some, refl, sym, ap, ◌∙◌}
use Rattle.std.specs.List.{list_all}
use Rattle.std.proofs.lemmas.Bool.{false≢true, or_parts}
use Rattle.book.specs.declared.amount.Amount.{Amount}
use Rattle.book.specs.declared.amount.Assertion.{Assertion}
use Rattle.book.specs.declared.fault.Cause.{Cause}
use Rattle.book.specs.declared.fault.Cause.TheVariants as cause
use Rattle.book.specs.declared.fault.Fault.{Fault}
use Rattle.book.specs.declared.transaction.Posting.{Posting}
use Rattle.book.specs.declared.transaction.Txn.{Txn}
use Rattle.entry_balance.specs.Entry.{assignment_fault, cause_alone, fits_alone, has_assignment, has_two_missing, is_assignment, unbalanced_by, unbalanced_sums, with_postings}
use Rattle.entry_balance.proofs.Named.{left_true, right_true}
use Rattle.balancing.specs.Solves.{AreMade, IsMadeBy, IsMadeTxn, is_allowed, is_unmarked}
use Rattle.balancing.proofs.SolvingMade.{AreUnmarked}
use Rattle.entry_check.specs.Checked.{Told, assigned_after, judged, made, made_posting, made_postings}

-- ---- nothing of it is marked as found

is_not : (b : Bool) → not b ≡ true → b ≡ false
is_not true h = absurd (false≢true h)
is_not false h = refl

pub none_marked : (ps : List Posting) → list_all is_unmarked ps ≡ true → AreUnmarked ps
none_marked [] h = tt
none_marked (p ∷ ps) h = (
  is_not p.filled (left_true (not p.filled) (not p.costed) (left_true (is_unmarked p) (list_all is_unmarked ps) h)),
  none_marked ps (right_true (is_unmarked p) (list_all is_unmarked ps) h),
)

-- ---- its check passes

pub record Passed (t v : Txn) (cause : Option Cause) (failing : Option Fault) : Type 0 where
  pub alone : cause ≡ None
  pub none : failing ≡ None
  pub is : t ≡ v

pub judged_ok : (t v : Txn) (cause : Option Cause) (failing : Option Fault) → judged t cause failing ≡ Ok v → Passed t v cause failing
judged_ok t v (Some c) failing h = absurd (let never : ⊥ = cc in never)
judged_ok t v None (Some f) h = absurd (let never : ⊥ = cc in never)
judged_ok t v None None h = let same : t ≡ v = cc in record { alone = refl; none = refl; is = same }

-- ---- what is made of it

-- a posting that isn't an assignment stays
one_to_make : (told : Told) (done : List Posting) (p : Posting) (a : Option Amount) (o : Option Assertion) → (is_none a && is_some o) ≡ false → made_posting told done p a o ≡ p
one_to_make told done p (Some a) o h = refl
one_to_make told done p None None h = refl
one_to_make told done p None (Some w) h = absurd (false≢true (sym h))

pub none_to_make : (told : Told) (ps : List Posting) → has_assignment ps ≡ false → (done : List Posting) → made_postings told done ps ≡ ps
none_to_make told [] h done = refl
none_to_make told (p ∷ ps) h done =
    let both = or_parts (is_assignment p) (has_assignment ps) h in
    let q = made_posting told done p p.amount p.wanted in
    let first : q ≡ p = one_to_make told done p p.amount p.wanted both.0 in
    let rest = none_to_make told ps both.1 (done ++ q ∷ []) in
    λ i. first i ∷ rest i

one_made : (told : Told) (done : List Posting) (p : Posting) (a : Option Amount) (o : Option Assertion) → IsMadeBy a o p (made_posting told done p a o)
one_made told done p (Some a) o = refl
one_made told done p None None = refl
one_made told done p None (Some w) = (assigned_after told done p w, refl)

pub are_made : (told : Told) (ps done : List Posting) → AreMade ps (made_postings told done ps)
are_made told [] done = tt
are_made told (p ∷ ps) done = (one_made told done p p.amount p.wanted, are_made told ps (done ++ made_posting told done p p.amount p.wanted ∷ []))

some_none : (c : Cause) → Some c ≡ None → ⊥
some_none c h = let never : ⊥ = cc in never

module _ (told : Told) (w : Txn) where
  abbrev pub all_made : Txn
  all_made = with_postings w (made_postings told [] w.postings)

  -- one whose assignments can't be made isn't balanced alone
  never : (c : Cause) → has_assignment w.postings ≡ true → assignment_fault w.postings ≡ Some c → cause_alone w.postings ≡ None → ⊥
  never c has fault h =
      let ps = w.postings in
      some_none c (sym (ap (λ (b : Bool). cond b (assignment_fault ps) (cond (has_two_missing ps) (Some cause.TwoMissing) (cond (fits_alone ps) (unbalanced_by (unbalanced_sums ps)) (Some cause.Range)))) has ∙ fault) ∙ h)

  made_by : (a : Bool) (f : Option Cause) → has_assignment w.postings ≡ a → assignment_fault w.postings ≡ f → cause_alone (cond (a && is_none f) all_made w).postings ≡ None → cond (a && is_none f) all_made w ≡ all_made
  made_by true None has fault h = refl
  made_by true (Some c) has fault h = absurd (never c has fault h)
  made_by false f has fault h = ap (with_postings w) (sym (none_to_make told w.postings has []))

  -- where it is balanced alone, all its assignments were made
  pub made_is : cause_alone (made told w).postings ≡ None → made told w ≡ all_made
  made_is h = made_by (has_assignment w.postings) (assignment_fault w.postings) refl refl h

  allowed_by : (a : Bool) (f : Option Cause) → has_assignment w.postings ≡ a → assignment_fault w.postings ≡ f → cause_alone (cond (a && is_none f) all_made w).postings ≡ None → (not a || is_none f) ≡ true
  allowed_by true None has fault h = refl
  allowed_by true (Some c) has fault h = absurd (never c has fault h)
  allowed_by false f has fault h = refl

  pub made_allowed : cause_alone (made told w).postings ≡ None → is_allowed w ≡ true
  made_allowed h = allowed_by (has_assignment w.postings) (assignment_fault w.postings) refl refl h

  pub made_kept : IsMadeTxn w all_made
  made_kept = record { postings = are_made told w.postings []; rest = refl }
