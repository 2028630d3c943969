-- The check of a transaction answers what its group has in the journal up to it.
use Rattle.std.proofs.Common.{◌≡◌, ℕ, zero, suc, true, List, [], ◌∷◌, ◌++◌, filter, map, Option, Some, None, Result, Ok, Err, inl, inr, refl, sym, ap, subst, ◌∙◌}
use Rattle.std.specs.List.{AllByRecursion, find, slice_get}
use Rattle.std.proofs.lemmas.Bool.{false≢true}
use Rattle.book.specs.SumsBefore.{Place, placed_from, placed_in, sum_before}
use Rattle.book.specs.declared.fault.Cause.{Cause}
use Rattle.book.specs.declared.fault.Cause.TheVariants as cause
use Rattle.book.specs.declared.fault.Fault.{Fault}
use Rattle.book.specs.declared.transaction.Posting.{Posting}
use Rattle.book.specs.declared.transaction.Txn.{Txn}
use Rattle.entry_balance.specs.Entry.{cause_alone, moved, settled, solved}
use Rattle.entry_balance.specs.Tally.{turnover_fits}
use Rattle.assertions.specs.Assertions.{or_else_fault}
use Rattle.balancing.specs.Faults.{IsMadeIf, failure_if, failure_on, fails, fault_of, fault_on, fits_through, is_first, placed_of, placed_through}
use Rattle.balancing.specs.Load.{fault_at}
use Rattle.balancing.specs.Solves.{IsAssignedAt, is_allowed}
use Rattle.balancing.specs.declared.fault.CheckFault.{CheckFault}
use Rattle.balancing.specs.declared.fault.CheckFault.TheVariants as check
use Rattle.balancing.proofs.FaultingGroups.{MadeBoth, made_both}
use Rattle.balancing.proofs.FaultingPlaces.{is_through}
use Rattle.balancing.proofs.FaultingWalk.{first_by_place}
use Rattle.balancing.proofs.SolvingOrders.{Reorders, by_equal, joined}
use Rattle.balancing.proofs.SolvingRising.{all_left, all_right, group_rises}
use Rattle.balancing.proofs.SolvingWalk.{placed_on, unplaced_on}
use Rattle.entry_check.specs.Checked.{IsBeyond, IsChecked, Told, asked_fit, checked, first_failing, in_order, judged, made as made_by, others_before, told_before}
use Rattle.placed_checks.specs.Placed.{AreRight, SameBefore, place_of}
use Rattle.placed_checks.proofs.Elsewhere.{Entry}
use Rattle.placed_checks.proofs.Held.{trimmed_is}
use Rattle.placed_checks.proofs.Lists.{Parts, parted}
use Rattle.placed_checks.proofs.Own.{IsOnDay, place_at}
use Rattle.placed_checks.proofs.Solved.{alike_of, days_of, same_are_right}
use Rattle.check_laws.specs.Upto.{IsUpto}
use Rattle.check_laws.specs.Valued.{AreOneCause, AreOneFault, IsAnswer}
use Rattle.check_laws.proofs.Around.{of_is, own_group, through_is}
use Rattle.check_laws.proofs.Causes.{own_cause}
use Rattle.check_laws.proofs.Failing.{AreOneIf, group_alike}
use Rattle.check_laws.proofs.Firsts.{first_is, made_on_day}
use Rattle.check_laws.proofs.Makes.{day_is, line_is, made_is}
use Rattle.check_laws.proofs.Orders.{on_one_day, placed_order}
use Rattle.check_laws.proofs.Ranges.{asked_fits, own_fits}

-- ---- a fault is one with itself by value

one_cause : (c : Cause) → AreOneCause c c
one_cause cause.Form = refl
one_cause cause.Date = refl
one_cause cause.Number = refl
one_cause cause.Account = refl
one_cause cause.StatusMark = refl
one_cause cause.Directive = refl
one_cause cause.Quote = refl
one_cause cause.TooLong = refl
one_cause cause.Encoding = refl
one_cause cause.TwoMissing = refl
one_cause cause.NotAllowed = refl
one_cause (cause.Unbalanced symbol sum) = refl
one_cause (cause.AssertionFailed wanted found) = (refl, record { symbol = refl; value = refl })
one_cause cause.Range = refl

-- ---- what is judged

-- the answer of a check that ended, beside what a group has
abbrev IsJudgedAs : Option Fault → Txn → Result Txn Fault → Type 0
IsJudgedAs None solved (Ok answer) = answer ≡ solved
IsJudgedAs None solved (Err fault) = ⊥
IsJudgedAs (Some fault) solved (Ok answer) = ⊥
IsJudgedAs (Some fault) solved (Err told) = AreOneFault fault told

judged_as : (line : ℕ) (t : Txn) (c : Option Cause) (f g : Option Fault) → line ≡ t.line → AreOneIf f g → IsJudgedAs (or_else_fault (fault_at line c) f) t (judged t c g)
judged_as line t (Some c) f g at h = record { line = at; cause = one_cause c }
judged_as line t None None None at h = refl
judged_as line t None None (Some g) at h = absurd h
judged_as line t None (Some f) None at h = absurd h
judged_as line t None (Some f) (Some g) at h = h

checked_as : (fault : Option Fault) (solved : Txn) (r : Result Txn CheckFault) (c : Result Txn Fault) → IsJudgedAs fault solved c
    → ((answer : Txn) → r ≡ Ok answer → c ≡ Ok answer) → ((told : Fault) → r ≡ Err (check.Journal told) → c ≡ Err told) → IsAnswer fault solved r
checked_as None solved (Ok answer) c h ok err = subst (IsJudgedAs None solved) (ok answer refl) h
checked_as None solved (Err (check.Journal told)) c h ok err = subst (IsJudgedAs None solved) (err told refl) h
checked_as None solved (Err check.Memory) c h ok err = tt
checked_as (Some fault) solved (Ok answer) c h ok err = subst (IsJudgedAs (Some fault) solved) (ok answer refl) h
checked_as (Some fault) solved (Err (check.Journal told)) c h ok err = subst (IsJudgedAs (Some fault) solved) (err told refl) h
checked_as (Some fault) solved (Err check.Memory) c h ok err = tt

-- ---- a transaction among those that are made

settled_there : (made : List Txn) (n : ℕ) (m : Txn) → slice_get made n ≡ Some m → slice_get (map settled made) n ≡ Some (settled m)
settled_there [] n m h = absurd (let never : ⊥ = cc in never)
settled_there (x ∷ made) zero m h = let same : x ≡ m = cc in ap (λ (u : Txn). Some (settled u)) same
settled_there (x ∷ made) (suc n) m h = settled_there made n m h

module _ (one written made : List Txn) (n : ℕ) (t m : Txn) (u : IsUpto written made n t m) (same : SameBefore one (map settled made) (place_of n t.day)) where
  abbrev book : List Txn
  book = map settled made

  abbrev T : Txn
  T = settled m

  abbrev told : Told
  told = told_before one (place_of n t.day)

  kept : IsMadeIf (is_allowed t) t m
  kept =
      let both = made_both written made u.kept n in
      let first = subst (λ (o : Option Txn). MadeBoth o (slice_get made n)) u.there both in
      subst (λ (o : Option Txn). MadeBoth (Some t) o) u.made_there first

  day : t.day ≡ T.day
  day = day_is (is_allowed t) t m kept

  parts : Parts book n T
  parts = parted book n T (settled_there made n m u.made_there)

  days : AllByRecursion (IsOnDay T) T.postings
  days = days_of T u.unmixed

  right : AreRight told (others_before one (place_of n t.day)) book (place_at T n 0)
  right = subst (AreRight told (others_before one (place_of n t.day)) book) (ap (place_of n) day) (same_are_right one book (place_of n t.day) same)

  group_is : (t.day.0, n) ≡ own_group T n
  group_is = λ i. ((day i).0, n)

  fits : fits_through book (own_group T n) ≡ true
  fits = ap (fits_through book) (sym group_is) ∙ u.fits

  assigned : AllByRecursion (IsAssignedAt book) (placed_in T n 0 T.postings)
  assigned =
      let all = subst (AllByRecursion (IsAssignedAt book)) (ap (placed_through book) group_is ∙ through_is book parts.front parts.back T n parts.is parts.long days) u.assigned in
      let A : List Entry = filter (is_through (own_group T n)) (placed_from 0 parts.front) in
      let C : List Entry = filter (is_through (own_group T n)) (placed_from (suc n) parts.back) in
      all_left (IsAssignedAt book) (placed_in T n 0 T.postings) C (all_right (IsAssignedAt book) A (placed_in T n 0 T.postings ++ C) all)

  made_again : made_by told t ≡ m
  made_again = made_is told (others_before one (place_of n t.day)) book parts.front parts.back t m n parts.is parts.long days u.few right u.unmarked assigned kept

  moved_fits : turnover_fits (moved (solved m.postings)) ≡ true
  moved_fits = own_fits book parts.front parts.back T n parts.is parts.long days u.few fits

  first : is_first written (own_group T n) ≡ true
  first = first_is written made n m u.kept u.made_there (refl, made_on_day T T.day.0 m.postings m.postings days)

  -- the group's fault, by what is wrong with the transaction alone
  fault_is : fault_of written made (t.day.0, n) ≡ or_else_fault (fault_at t.line (cause_alone m.postings)) (failure_on book (own_group T n))
  fault_is =
      ap (fault_of written made) group_is
      ∙ (λ i. fault_on written made (own_group T n) (u.there i) (u.made_there i))
      ∙ ap (λ (c : Option Cause). or_else_fault (fault_at t.line c) (failure_on book (own_group T n))) (own_cause written made (own_group T n) t m kept first fits moved_fits)

  failure_is : failure_on book (own_group T n) ≡ failure_if book (find (fails book) (placed_on T.day.0 n T))
  failure_is =
      let order : Reorders (placed_of book (own_group T n)) (placed_on T.day.0 n T) = joined (by_equal (of_is book parts.front parts.back T n parts.is parts.long days)) (placed_order T n days) in
      ap (failure_if book) (first_by_place (fails book) (placed_of book (own_group T n)) (placed_on T.day.0 n T) order (group_rises (own_group T n) (Some T)))

  failing : AreOneIf (failure_on book (own_group T n)) (first_failing told (others_before one (place_of n t.day)) [] (in_order T.postings))
  failing =
      let alike = group_alike told (others_before one (place_of n t.day)) book parts.front parts.back T n parts.is parts.long days u.few right (alike_of T u.unmixed) in
      let names : map (λ (e : Entry). e.1) (placed_on T.day.0 n T) ≡ in_order T.postings = unplaced_on T.day.0 n T ∙ on_one_day T days in
      subst (λ (o : Option Fault). AreOneIf o (first_failing told (others_before one (place_of n t.day)) [] (in_order T.postings))) (sym failure_is)
      (subst (λ (ps : List Posting). AreOneIf (failure_if book (find (fails book) (placed_on T.day.0 n T))) (first_failing told (others_before one (place_of n t.day)) [] ps)) names alike)

  checked_is : checked told (others_before one (place_of n t.day)) t ≡ judged T (cause_alone m.postings) (first_failing told (others_before one (place_of n t.day)) [] (in_order T.postings))
  checked_is = ap (λ (x : Txn). judged (settled x) (cause_alone x.postings) (first_failing told (others_before one (place_of n t.day)) [] (in_order (settled x).postings))) made_again

  judges : IsJudgedAs (fault_of written made (t.day.0, n)) T (checked told (others_before one (place_of n t.day)) t)
  judges =
      subst (λ (f : Option Fault). IsJudgedAs f T (checked told (others_before one (place_of n t.day)) t)) (sym fault_is)
      (subst (IsJudgedAs (or_else_fault (fault_at t.line (cause_alone m.postings)) (failure_on book (own_group T n))) T) (sym checked_is)
      (judged_as t.line T (cause_alone m.postings) (failure_on book (own_group T n)) (first_failing told (others_before one (place_of n t.day)) [] (in_order T.postings)) (line_is (is_allowed t) t m kept) failing))

  stays : asked_fit told T.postings T.postings ≡ true
  stays =
      let place : Place = place_of n t.day in
      asked_fits book parts.front parts.back T n parts.is parts.long days u.few fits told (λ below account symbol. sum_before one account symbol below place) (λ below account symbol. refl)
      (λ below account symbol. sym (trimmed_is (sum_before one account symbol below place)) ∙ right.sums below account symbol) T.postings

  not_beyond : IsBeyond told t → ⊥
  not_beyond beyond = false≢true (sym (ap (λ (x : Txn). asked_fit told (settled x).postings (settled x).postings) (sym made_again) ∙ beyond.range) ∙ stays)

  pub answers : (r : Result Txn CheckFault) → IsChecked told (others_before one (place_of n t.day)) t r → IsAnswer (fault_of written made (t.day.0, n)) (settled m) r
  answers r is = checked_as (fault_of written made (t.day.0, n)) T r (checked told (others_before one (place_of n t.day)) t) judges (λ answer e. subst (IsChecked told (others_before one (place_of n t.day)) t) e is) (λ f e. told_fault f (subst (IsChecked told (others_before one (place_of n t.day)) t) e is))
    where
      told_fault : (f : Fault) → IsChecked told (others_before one (place_of n t.day)) t (Err (check.Journal f)) → checked told (others_before one (place_of n t.day)) t ≡ Err f
      told_fault f (inl h) = h
      told_fault f (inr h) = absurd (not_beyond h.1)
