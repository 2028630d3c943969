-- One group after another, whose assignments are made as it comes.
use Rattle.std.proofs.Common.{◌≡◌, ℕ, ◌+◌, ◌<◌, true, List, [], ◌∷◌, ◌++◌, length, get_or, drop, Option, Some, None, is_some, refl, sym, ap, ◌∙◌, subst}
use Rattle.std.specs.List.{slice_get}
use Rattle.std.proofs.lemmas.Bool.{false≢true}
use Rattle.hl_num.specs.Decimal.{Decimal}
use Rattle.book.specs.declared.fault.Cause.{Cause}
use Rattle.book.specs.declared.fault.Fault.{Fault}
use Rattle.book.specs.declared.transaction.Posting.{Posting}
use Rattle.book.specs.declared.transaction.Txn.{Txn}
use Rattle.entry_balance.specs.Values.{Value}
use Rattle.entry_balance.specs.Entry.{moved}
use Rattle.entry_balance.specs.Settled.{AreSettled}
use Rattle.entry_balance.specs.Turnover.{IsTurnover}
use Rattle.assertions.specs.Assertions.{first_failure, or_else_fault}
use Rattle.balancing.specs.Parts.{postings_of_group}
use Rattle.balancing.specs.Assigned.{given_at_by, given_from_by, is_ready}
use Rattle.balancing.specs.declared.form.Form.{Form}
use Rattle.balancing.specs.Entering.{entering}
use Rattle.balancing.specs.Groups.{Group}
use Rattle.assertions.specs.Kept.{Keeping, IsBalance, are_asked}
use Rattle.balancing.specs.Load.{fault_of_group, moved_of_group}
use Rattle.balancing.specs.Walk.{AreGiven, IsAfter, IsGiven, IsPassed, IsTold, IsWalked}
use Rattle.assertions.proofs.Balanced.{are_asked_same}
use Rattle.balancing.proofs.Given.{given-keeps_by, given-ready_at, own-next}
use Rattle.balancing.proofs.Walked.{walk_more, walk_stop, walk_end, left_here}

passed_same : (ws vs : List Txn) (before : List Value) (seen : List Posting) (g : Group) (sums : List Value) (own below : Keeping) (fault : Option Fault) → slice_get vs g.1 ≡ slice_get ws g.1 → IsPassed ws before seen g sums own below fault → IsPassed vs before seen g sums own below fault
passed_same ws vs before seen g sums own below fault e p = record {
  is = p.is ∙ ap (λ (o : Option Txn). or_else_fault (fault_of_group before g.0 o) (first_failure seen (postings_of_group g.0 o))) (sym e);
  more = λ none. subst (λ (o : Option Txn). IsTurnover (before ++ moved_of_group g.0 o) sums) (sym e) (p.more none);
  kept = λ none. subst (λ (o : Option Txn). IsBalance (seen ++ postings_of_group g.0 o) own below) (sym e) (p.kept none);
}

module _ (enter : Decimal → Decimal) (all now ts ts' : List Txn) (cs cs' : List (Option Cause)) (seen : List Posting) (g : Group) (left : List Group) (own below : Keeping)
    (a : AreGiven enter all now ts cs seen (g ∷ left) own below) where
  abbrev next : List Txn
  next = given_at_by enter seen g.1 now

  pub next_ready : is_ready (slice_get next g.1) ≡ true
  next_ready = given-ready_at enter seen g.1 now

  same_there : slice_get all g.1 ≡ slice_get next g.1
  same_there = ap (λ (xs : List Txn). slice_get xs g.1) (sym a.rest) ∙ given-keeps_by enter next (seen ++ postings_of_group g.0 (slice_get next g.1)) left g.1 next_ready

  pub after_given : (sums : List Value) (own' below' : Keeping) (fault : Option Fault) → IsGiven enter now seen g own below ts' cs' None → IsPassed next (moved seen) seen g sums own' below' fault
      → (fault ≡ None → own'.1 ≡ own.1) → (fault ≡ None → below'.1 ≡ below.1) → IsAfter enter all now ts' cs' seen g left sums own' below' fault
  after_given sums own' below' fault given passed same_own same_below = record {
    passed = passed_same next all (moved seen) seen g sums own' below' fault same_there passed;
    given = λ none. record {
      rest = ap (λ (o : Option Txn). given_from_by enter next (seen ++ postings_of_group g.0 o) left) same_there ∙ a.rest;
      owned = own-next enter seen g.1 now left a.owned.1;
      settled = given.settled refl;
      asked = are_asked_same own below own' below' ts' (same_own none) (same_below none) (given.asked refl);
    };
  }

  pub after_fault : (sums : List Value) (own' below' : Keeping) (fault : Fault) → IsGiven enter now seen g own below ts' cs' (Some fault) → IsAfter enter all now ts' cs' seen g left sums own' below' (Some fault)
  after_fault sums own' below' fault given = record {
    passed = passed_same next all (moved seen) seen g sums own' below' (Some fault) same_there (record {
      is = ap (λ (o : Option Fault). or_else_fault o (first_failure seen (postings_of_group g.0 (slice_get next g.1)))) (given.range refl);
      more = λ none. absurd (let never : ⊥ = cc in never);
      kept = λ none. absurd (let never : ⊥ = cc in never);
    });
    given = λ none. absurd (let never : ⊥ = cc in never);
  }

module _ (enter : Decimal → Decimal) where
  -- What is known after some groups.
  pub record IsOn (all now txns : List Txn) (causes : List (Option Cause)) (groups left : List Group) (seen : List Posting) (sums : List Value) (own below : Keeping) : Type 0 where
    pub given : AreGiven enter all now txns causes seen left own below
    pub walked : IsWalked all groups left (moved seen) seen sums own below

module _ (enter : Decimal → Decimal) (all now ts ts' : List Txn) (cs cs' : List (Option Cause)) (groups : List Group) (seen : List Posting) (sums : List Value) (own below : Keeping) (i : ℕ) (g : Group) (within : i < length groups) (is : g ≡ get_or groups i g)
    (on : IsOn enter all now ts cs groups (drop i groups) seen sums own below) where
  pub here : AreGiven enter all now ts cs seen (g ∷ drop (i + 1) groups) own below
  here = subst (λ (gs : List Group). AreGiven enter all now ts cs seen gs own below) (left_here all groups (moved seen) seen sums own below i g within is on.walked) on.given

  pub on_more : (new : List Value) (own' below' : Keeping) (fault : Option Fault) → IsAfter enter all now ts' cs' seen g (drop (i + 1) groups) new own' below' fault → fault ≡ None
      → IsOn enter all (given_at_by enter seen g.1 now) ts' cs' groups (drop (i + 1) groups) (seen ++ postings_of_group g.0 (slice_get all g.1)) new own' below'
  on_more new own' below' fault after none =
      let more = walk_more all groups (moved seen) seen sums own below i g within is on.walked new own' below' fault after.passed none in
      record {
        given = after.given none;
        walked = subst (λ (vs : List Value). IsWalked all groups (drop (i + 1) groups) vs (seen ++ postings_of_group g.0 (slice_get all g.1)) new own' below') more.moves more;
      }

  pub on_stop : (new : List Value) (own' below' : Keeping) (fault : Option Fault) → IsAfter enter all now ts' cs' seen g (drop (i + 1) groups) new own' below' fault → is_some fault ≡ true → IsTold all ts' cs' groups fault
  on_stop new own' below' fault after some = walk_stop all groups (moved seen) seen sums own below i g within is on.walked new own' below' fault after.passed some ts' cs'

  -- a group whose assignments are out of range
  pub on_given : (fault : Option Fault) → IsGiven enter now seen g own below ts' cs' fault → is_some fault ≡ true → IsTold all ts' cs' groups fault
  on_given None given some = absurd (false≢true some)
  on_given (Some f) given some = on_stop sums own below (Some f) (after_fault enter all now ts ts' cs cs' seen g (drop (i + 1) groups) own below here sums own below f given) some

  -- a group whose assignments are made
  pub on_passed : (given : Option Fault) → given ≡ None → IsGiven enter now seen g own below ts' cs' given → (new : List Value) (own' below' : Keeping) (fault : Option Fault) → IsPassed (given_at_by enter seen g.1 now) (moved seen) seen g new own' below' fault
      → (fault ≡ None → own'.1 ≡ own.1) → (fault ≡ None → below'.1 ≡ below.1) → IsAfter enter all now ts' cs' seen g (drop (i + 1) groups) new own' below' fault
  on_passed given none is new own' below' fault passed same_own same_below =
      after_given enter all now ts ts' cs cs' seen g (drop (i + 1) groups) own below here new own' below' fault (subst (λ (o : Option Fault). IsGiven enter now seen g own below ts' cs' o) none is) passed same_own same_below

-- the transactions after a group's assignments were made, also where they are handed on under other names
module _ (enter : Decimal → Decimal) (ws : List Txn) (seen : List Posting) (g : Group) (own below : Keeping) (ts : List Txn) (cs : List (Option Cause)) where
  pub given_settled : (fault : Option Fault) (ts' : List Txn) (cs' : List (Option Cause)) → fault ≡ None → ts' ≡ ts → cs' ≡ cs → IsGiven enter ws seen g own below ts cs fault → AreSettled (given_at_by enter seen g.1 ws) ts' cs'
  given_settled fault ts' cs' none is causes h = subst (λ (x : List Txn × List (Option Cause)). AreSettled (given_at_by enter seen g.1 ws) x.0 x.1) (λ i. (sym is i, sym causes i)) (h.settled none)

  pub given_asked : (fault : Option Fault) (ts' : List Txn) → fault ≡ None → ts' ≡ ts → IsGiven enter ws seen g own below ts cs fault → are_asked own below ts' ≡ true
  given_asked fault ts' none is h = ap (are_asked own below) is ∙ h.asked none

-- what is given in one form is given in an equal one
pub given_in : (f k : Form) (ws : List Txn) (seen : List Posting) (g : Group) (own below : Keeping) (ts : List Txn) (cs : List (Option Cause)) (fault : Option Fault) → f ≡ k → IsGiven (entering f) ws seen g own below ts cs fault → IsGiven (entering k) ws seen g own below ts cs fault
given_in f k ws seen g own below ts cs fault same h = subst (λ (x : Form). IsGiven (entering x) ws seen g own below ts cs fault) same h

module _ (enter : Decimal → Decimal) where
  pub on_end : (all now ts : List Txn) (cs : List (Option Cause)) (groups left : List Group) (seen : List Posting) (sums : List Value) (own below : Keeping) → left ≡ [] → IsOn enter all now ts cs groups left seen sums own below → IsTold all ts cs groups None
  on_end all now ts cs groups left seen sums own below empty on =
      walk_end all groups left (moved seen) seen sums own below empty on.walked ts cs
      (subst (λ (xs : List Txn). AreSettled xs ts cs) (sym (ap (given_from_by enter now seen) empty) ∙ on.given.rest) on.given.settled)
