-- Assignments of one transaction that are made one after another.
use Rattle.std.proofs.Common.{◌≡◌, Bool, true, false, cond, ◌&&◌, ◌||◌, List, [], ◌∷◌, ◌++◌, Option, Some, None, is_some, is_none, refl, sym, ap, ◌∙◌, subst}
use Rattle.std.proofs.lemmas.Bool.{false≢true}
use Rattle.std.proofs.lemmas.Grind.{flat_map-append}
use Rattle.std.proofs.lemmas.List.{append_assoc, append-nil}
use Rattle.book.specs.declared.amount.Amount.{Amount}
use Rattle.book.specs.declared.amount.Assertion.{Assertion}
use Rattle.book.specs.declared.transaction.Posting.{Posting}
use Rattle.book.specs.declared.transaction.Txn.{Txn}
use Rattle.entry_balance.specs.Values.{Value}
use Rattle.entry_balance.specs.Tally.{turnover_fits}
use Rattle.entry_balance.specs.Entry.{moved, moved_by, plain_amount, is_assignable, has_assignment, is_assignment, with_postings, assignment_fault, cause_alone, has_two_missing, fits_alone, unbalanced_by, unbalanced_sums}
use Rattle.book.specs.declared.fault.Cause.TheVariants as cause
use Rattle.entry_balance.proofs.Adding.{false-from}
use Rattle.entry_balance.proofs.Covers.{Covers, covered-fits, covers_same, covers_both}
use Rattle.assertions.specs.Assertions.{held_in}
use Rattle.assertions.proofs.Balanced.{covers_held}
use Rattle.balancing.specs.Assigned.{assigned_posting}
use Rattle.balancing.specs.Giving.{given_with, fits_after}
use Rattle.entry_check.specs.Checked.{Told, held_after, assigned_after, made_posting, made_postings, made, wanted_fits}
use Rattle.entry_check.specs.Ranging.{are_in_range}
use Rattle.entry_check.proofs.Within.{out_first, out_last}

-- ---- one posting

module _ (told : Told) (done : List Posting) (p : Posting) where
  -- a posting without an assertion, or with an amount, stays
  pub made_none : p.wanted ≡ None → p ≡ made_posting told done p p.amount p.wanted
  made_none none = by p.amount ∙ ap (made_posting told done p p.amount) (sym none)
    where
      by : (a : Option Amount) → p ≡ made_posting told done p a None
      by None = refl
      by (Some a) = refl

  pub made_some : is_some p.amount ≡ true → p ≡ made_posting told done p p.amount p.wanted
  made_some some = by p.amount some
    where
      by : (a : Option Amount) → is_some a ≡ true → p ≡ made_posting told done p a p.wanted
      by None h = absurd (false≢true h)
      by (Some a) h = refl

  module _ (w : Assertion) (wanted : p.wanted ≡ Some w) (none : p.amount ≡ None) where
    made_assigned : made_posting told done p p.amount p.wanted ≡ assigned_posting p (assigned_after told done p w)
    made_assigned = λ i. made_posting told done p (none i) (wanted i)

    pub made_is : (a : Amount) → a ≡ plain_amount (assigned_after told done p w) → given_with p (Some a) ≡ made_posting told done p p.amount p.wanted
    made_is a is = ap (λ (x : Amount). given_with p (Some x)) is ∙ sym made_assigned

    -- what is assigned is out of range, so what is moved is beside what is asked for
    pub assigned_beyond : fits_after (held_after told w.below p.account w.amount.symbol done) w.amount ≡ false → are_in_range told (done ++ made_posting told done p p.amount p.wanted ∷ []) ≡ false
    assigned_beyond range =
        let before : Value = (w.amount.symbol, told w.below p.account w.amount.symbol) in
        let value : Value = assigned_after told done p w in
        let q : Posting = assigned_posting p value in
        let all : moved (done ++ q ∷ []) ≡ moved done ++ value ∷ [] = flat_map-append moved_by done (q ∷ []) in
        let covers : Covers (before ∷ moved (done ++ q ∷ [])) ((before ∷ held_in w.below p.account done) ++ value ∷ []) =
        subst (λ (vs : List Value). Covers (before ∷ vs) ((before ∷ held_in w.below p.account done) ++ value ∷ [])) (sym all)
        (covers_both (before ∷ held_in w.below p.account done) (before ∷ moved done) (value ∷ []) (value ∷ [])
        (covers_both (before ∷ []) (before ∷ []) (held_in w.below p.account done) (moved done) (covers_same (before ∷ [])) (covers_held w.below p.account done)) (covers_same (value ∷ []))) in
        let out : turnover_fits (before ∷ moved (done ++ q ∷ [])) ≡ false = false-from _ (λ fits. false≢true (sym range ∙ covered-fits (before ∷ moved (done ++ q ∷ [])) ((before ∷ held_in w.below p.account done) ++ value ∷ []) covers fits)) in
        let asked : wanted_fits told p.account p.wanted (done ++ q ∷ []) ≡ false = ap (λ (o : Option Assertion). wanted_fits told p.account o (done ++ q ∷ [])) wanted ∙ out in
        subst (λ (x : Posting). are_in_range told (done ++ x ∷ []) ≡ false) (sym made_assigned) (out_last told done q asked)

pub none-is : {X : Type 0} (o : Option X) → is_some o ≡ false → o ≡ None
none-is None h = refl
none-is (Some x) h = absurd (false≢true (sym h))

-- ---- all postings

pub made-append : (told : Told) (done xs ys : List Posting) → made_postings told done (xs ++ ys) ≡ made_postings told done xs ++ made_postings told (done ++ made_postings told done xs) ys
made-append told done [] ys = ap (λ (s : List Posting). made_postings told s ys) (sym (append-nil done))
made-append told done (x ∷ xs) ys =
    let q = made_posting told done x x.amount x.wanted in
    ap (λ (t : List Posting). q ∷ t) (made-append told (done ++ q ∷ []) xs ys
    ∙ ap (λ (s : List Posting). made_postings told (done ++ q ∷ []) xs ++ made_postings told s ys) (append_assoc done (q ∷ []) (made_postings told (done ++ q ∷ []) xs)))

pub made-push : (told : Told) (xs : List Posting) (x : Posting) → made_postings told [] (xs ++ x ∷ []) ≡ made_postings told [] xs ++ made_posting told (made_postings told [] xs) x x.amount x.wanted ∷ []
made-push told xs x = made-append told [] xs (x ∷ [])

-- through one posting they are out of range, so all are
pub through_beyond : (told : Told) (xs all rest : List Posting) (x : Posting) → all ≡ xs ++ x ∷ rest → are_in_range told (made_postings told [] xs ++ made_posting told (made_postings told [] xs) x x.amount x.wanted ∷ []) ≡ false → are_in_range told (made_postings told [] all) ≡ false
through_beyond told xs all rest x is beyond =
    let done = made_postings told [] xs in
    let q = made_posting told done x x.amount x.wanted in
    let later = made_postings told (done ++ q ∷ []) rest in
    let whole : made_postings told [] all ≡ (done ++ q ∷ []) ++ later =
    ap (made_postings told []) is ∙ made-append told [] xs (x ∷ rest) ∙ sym (append_assoc done (q ∷ []) later) in
    subst (λ (ps : List Posting). are_in_range told ps ≡ false) (sym whole) (out_first told (done ++ q ∷ []) later beyond)

-- ---- the transaction

pub made_here : (told : Told) (t : Txn) → is_assignable t.postings ≡ true → made told t ≡ with_postings t (made_postings told [] t.postings)
made_here told t h = ap (λ (b : Bool). cond b (with_postings t (made_postings told [] t.postings)) t) h

pub made_stays : (told : Told) (t : Txn) → is_assignable t.postings ≡ false → t ≡ made told t
made_stays told t h = sym (ap (λ (b : Bool). cond b (with_postings t (made_postings told [] t.postings)) t) h)

pub made_with : (told : Told) (t : Txn) (ps : List Posting) → is_assignable t.postings ≡ true → ps ≡ made_postings told [] t.postings → with_postings t ps ≡ made told t
made_with told t ps h is = ap (with_postings t) is ∙ sym (made_here told t h)

pub made_beyond : (told : Told) (t : Txn) → is_assignable t.postings ≡ true → are_in_range told (made_postings told [] t.postings) ≡ false → are_in_range told (made told t).postings ≡ false
made_beyond told t h beyond = subst (λ (x : Txn). are_in_range told x.postings ≡ false) (sym (made_here told t h)) beyond

-- no assignment is left
unassigned_one : (told : Told) (done : List Posting) (p : Posting) → is_assignment (made_posting told done p p.amount p.wanted) ≡ false
unassigned_one told done p = by p.amount p.wanted refl refl
  where
    by : (a : Option Amount) (w : Option Assertion) → p.amount ≡ a → p.wanted ≡ w → is_assignment (made_posting told done p a w) ≡ false
    by (Some a) w is_a is_w = ap (λ (x : Option Amount). is_none x && is_some p.wanted) is_a
    by None None is_a is_w = λ i. is_none (is_a i) && is_some (is_w i)
    by None (Some w) is_a is_w = refl

pub unassigned : (told : Told) (done ps : List Posting) → has_assignment (made_postings told done ps) ≡ false
unassigned told done [] = refl
unassigned told done (p ∷ ps) =
    let q = made_posting told done p p.amount p.wanted in
    ap (λ (b : Bool). b || has_assignment (made_postings told (done ++ q ∷ []) ps)) (unassigned_one told done p) ∙ unassigned told (done ++ q ∷ []) ps

-- a transaction with nothing wrong in itself has no assignment that is still to be made
pub none_left : (told : Told) (t : Txn) → cause_alone (made told t).postings ≡ None → has_assignment (made told t).postings ≡ false
none_left told t nothing = by (is_assignable t.postings) refl
  where
    never : (ps : List Posting) → is_assignable ps ≡ false → cause_alone ps ≡ None → has_assignment ps ≡ false
    never ps h none = cases (has_assignment ps) refl
      where
        cases : (b : Bool) → has_assignment ps ≡ b → has_assignment ps ≡ false
        cases false e = e
        cases true e =
            let fault : assignment_fault ps ≡ None = sym (ap (λ (b : Bool). cond b (assignment_fault ps) (cond (has_two_missing ps) (Some cause.TwoMissing) (cond (fits_alone ps) (unbalanced_by (unbalanced_sums ps)) (Some cause.Range)))) e) ∙ none in
            absurd (false≢true (sym h ∙ (λ i. e i && is_none (fault i))))

    by : (b : Bool) → is_assignable t.postings ≡ b → has_assignment (made told t).postings ≡ false
    by true h = ap (λ (x : Txn). has_assignment x.postings) (made_here told t h) ∙ unassigned told [] t.postings
    by false h = ap (λ (x : Txn). has_assignment x.postings) (sym (made_stays told t h)) ∙ never t.postings h (ap (λ (x : Txn). cause_alone x.postings) (made_stays told t h) ∙ nothing)
