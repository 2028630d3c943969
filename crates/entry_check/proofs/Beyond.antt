-- A transaction whose check comes to sums that are out of range.
use Rattle.std.proofs.Common.{◌≡◌, ℕ, ◌+◌, Bool, true, false, cond, ◌&&◌, ◌||◌, ltb, List, [], ◌∷◌, ◌++◌, Option, Some, None, is_some, is_none, Result, Err, inl, inr, refl, sym, ap, ◌∙◌}
use Rattle.std.specs.List.{flat_map}
use Rattle.std.proofs.lemmas.Bool.{false≢true, or_parts}
use Rattle.std.proofs.lemmas.List.Folds.{list_all-append}
use Rattle.std.proofs.lemmas.List.Sums.{sum_by-cons}
use Rattle.book.specs.declared.amount.Amount.{Amount}
use Rattle.book.specs.declared.amount.Assertion.{Assertion}
use Rattle.book.specs.declared.amount.Cost.TheVariants.{Total}
use Rattle.book.specs.declared.fault.Cause.{Cause}
use Rattle.book.specs.declared.fault.Cause.TheVariants as cause
use Rattle.book.specs.declared.fault.Fault.{Fault}
use Rattle.book.specs.declared.transaction.Posting.{Posting}
use Rattle.book.specs.declared.transaction.Side.{Side}
use Rattle.book.specs.declared.transaction.Side.TheVariants.{Real, Balanced, Free}
use Rattle.book.specs.declared.transaction.Txn.{Txn}
use Rattle.entry_balance.specs.Values.{Value}
use Rattle.entry_balance.specs.Tally.{turnover_fits}
use Rattle.entry_balance.specs.Entry.{absent_count, assignment_fault, cause_alone, costed_posting, costs_fit, fits_alone, has_assignment, has_two_missing, is_absent, is_assignable, is_assignment, is_missing, is_real_of, lacks_two, missing_count, moved, plain_amount, recorded_cost, same_side, settled, solved, solved_posting, unbalanced_by, unbalanced_sums, with_postings}
use Rattle.entry_balance.proofs.Named.{both_true, left_true, right_true}
use Rattle.balancing.proofs.Given.{assignable_one}
use Rattle.balancing.proofs.Ranged.{solved_covers}
use Rattle.entry_check.specs.Checked.{Told, Others, IsBeyond, IsChecked, asked_fit, checked, comes_first, first_failing, in_order, judged, made, made_posting, made_postings, out_of_range, wanted_fits}
use Rattle.entry_check.specs.Ranging.{are_in_range}
use Rattle.entry_check.proofs.Giving.{made_here, none-is, unassigned}
use Rattle.entry_check.proofs.Within.{out_more}

-- ---- what is missing once assignments are made

absent_one : (told : Told) (done : List Posting) (side : Side) (p : Posting) → is_missing side (made_posting told done p p.amount p.wanted) ≡ is_absent side p
absent_one told done side p = by p.amount p.wanted refl refl
  where
    none_and : (s w : Bool) → (s && false) ≡ ((s && false) && w)
    none_and true w = refl
    none_and false w = refl

    all_and : (s : Bool) → (s && true) ≡ ((s && true) && true)
    all_and true = refl
    all_and false = refl

    no_and : (s : Bool) → (s && false) ≡ ((s && true) && false)
    no_and true = refl
    no_and false = refl

    by : (a : Option Amount) (w : Option Assertion) → p.amount ≡ a → p.wanted ≡ w → is_missing side (made_posting told done p a w) ≡ is_absent side p
    by (Some a) w is_a is_w =
        ap (λ (x : Option Amount). same_side side p.side && is_none x) is_a ∙ none_and (same_side side p.side) (is_none p.wanted)
        ∙ sym (ap (λ (x : Option Amount). (same_side side p.side && is_none x) && is_none p.wanted) is_a)
    by None None is_a is_w =
        ap (λ (x : Option Amount). same_side side p.side && is_none x) is_a ∙ all_and (same_side side p.side)
        ∙ sym (λ i. (same_side side p.side && is_none (is_a i)) && is_none (is_w i))
    by None (Some w) is_a is_w = no_and (same_side side p.side) ∙ sym (λ i. (same_side side p.side && is_none (is_a i)) && is_none (is_w i))

absent_all : (told : Told) (done : List Posting) (side : Side) (ps : List Posting) → missing_count side (made_postings told done ps) ≡ absent_count side ps
absent_all told done side [] = refl
absent_all told done side (p ∷ ps) =
    let q = made_posting told done p p.amount p.wanted in
    sum_by-cons (λ x. cond (is_missing side x) 1 0) q (made_postings told (done ++ q ∷ []) ps)
    ∙ (λ i. cond {A = ℕ} (absent_one told done side p i) 1 0 + absent_all told (done ++ q ∷ []) side ps i)
    ∙ sym (sum_by-cons (λ x. cond (is_absent side x) 1 0) p ps)

made_two : (told : Told) (done ps : List Posting) → has_two_missing (made_postings told done ps) ≡ lacks_two ps
made_two told done ps = λ i. (ltb 1 (absent_all told done Real ps i) || ltb 1 (absent_all told done Balanced ps i)) || ltb 0 (absent_all told done Free ps i)

-- ---- what is wrong with it alone

alone_is : (ps : List Posting) → has_assignment ps ≡ false → has_two_missing ps ≡ false → cause_alone ps ≡ cond (fits_alone ps) (unbalanced_by (unbalanced_sums ps)) (Some cause.Range)
alone_is ps none one =
    ap (λ (b : Bool). cond b (assignment_fault ps) (cond (has_two_missing ps) (Some cause.TwoMissing) (cond (fits_alone ps) (unbalanced_by (unbalanced_sums ps)) (Some cause.Range)))) none
    ∙ ap (λ (b : Bool). cond b (Some cause.TwoMissing) (cond (fits_alone ps) (unbalanced_by (unbalanced_sums ps)) (Some cause.Range))) one

unbalanced_later : (sums : List Value) → comes_first (unbalanced_by sums) ≡ false
unbalanced_later [] = refl
unbalanced_later (v ∷ vs) = refl

some_none : (c : Cause) → Some c ≡ None → ⊥
some_none c h = let never : ⊥ = cc in never

-- nothing is wrong with it, so it is in range alone
fits_without : (ps : List Posting) → cause_alone ps ≡ None → has_assignment ps ≡ false → fits_alone ps ≡ true
fits_without ps nothing none = by (has_two_missing ps) (fits_alone ps) (sym (ap (λ (b : Bool). cond b (assignment_fault ps) (cond (has_two_missing ps) (Some cause.TwoMissing) (cond (fits_alone ps) (unbalanced_by (unbalanced_sums ps)) (Some cause.Range)))) none) ∙ nothing)
  where
    by : (two fits : Bool) → cond two (Some cause.TwoMissing) (cond fits (unbalanced_by (unbalanced_sums ps)) (Some cause.Range)) ≡ None → fits ≡ true
    by true fits h = absurd (some_none cause.TwoMissing h)
    by false true h = refl
    by false false h = absurd (some_none cause.Range h)

-- ---- what its postings ask for

costed_asks : (told : Told) (xs : List Posting) (c : Option (List ℕ × Value)) (p : Posting) → wanted_fits told (costed_posting c p).account (costed_posting c p).wanted xs ≡ true → wanted_fits told p.account p.wanted xs ≡ true
costed_asks told xs None p h = h
costed_asks told xs (Some c) p h = by (is_real_of c.0 p && is_none p.cost) h
  where
    by : (b : Bool) → wanted_fits told (cond b (record p { cost = Some (Total (plain_amount c.1)); costed = true }) p).account (cond b (record p { cost = Some (Total (plain_amount c.1)); costed = true }) p).wanted xs ≡ true → wanted_fits told p.account p.wanted xs ≡ true
    by true k = k
    by false k = k

solved_asks : (told : Told) (xs all ps : List Posting) → has_assignment ps ≡ false → asked_fit told xs (flat_map (λ p. solved_posting all p p.amount) ps) ≡ true → asked_fit told xs ps ≡ true
solved_asks told xs all [] none h = refl
solved_asks told xs all (p ∷ ps) none h =
    let parts = or_parts (is_assignment p) (has_assignment ps) none in
    let rest = flat_map (λ (q : Posting). solved_posting all q q.amount) ps in
    let both = sym (list_all-append (λ (q : Posting). wanted_fits told q.account q.wanted xs) (solved_posting all p p.amount) rest) ∙ h in
    both_true (wanted_fits told p.account p.wanted xs) (asked_fit told xs ps)
    (by p.amount refl (left_true (asked_fit told xs (solved_posting all p p.amount)) (asked_fit told xs rest) both) parts.0)
    (solved_asks told xs all ps parts.1 (right_true (asked_fit told xs (solved_posting all p p.amount)) (asked_fit told xs rest) both))
  where
    by : (a : Option Amount) → p.amount ≡ a → asked_fit told xs (solved_posting all p a) ≡ true → is_assignment p ≡ false → wanted_fits told p.account p.wanted xs ≡ true
    by None e k plain = ap (λ (o : Option Assertion). wanted_fits told p.account o xs) (none-is p.wanted (sym (ap (λ (x : Option Amount). is_none x && is_some p.wanted) e) ∙ plain))
    by (Some a) e k plain = costed_asks told xs (recorded_cost all) p (left_true (wanted_fits told (costed_posting (recorded_cost all) p).account (costed_posting (recorded_cost all) p).wanted xs) true k)

solved_out : (told : Told) (ps : List Posting) → has_assignment ps ≡ false → are_in_range told ps ≡ false → are_in_range told (solved ps) ≡ false
solved_out told ps none = out_more told ps (solved ps) (record {
  moves = solved_covers ps ps;
  asks = λ xs h. solved_asks told xs ps ps none h;
})

-- it is in range alone, so not beside what it asks for
asked_out : (told : Told) (ps : List Posting) → fits_alone ps ≡ true → are_in_range told (solved ps) ≡ false → asked_fit told (solved ps) (solved ps) ≡ false
asked_out told ps fits out = sym (ap (λ (b : Bool). b && asked_fit told (solved ps) (solved ps)) (right_true (costs_fit ps) (turnover_fits (moved (solved ps))) fits)) ∙ out

-- ---- the transaction

module _ (told : Told) (others : Others) (t : Txn) where
  made_line : (made told t).line ≡ t.line
  made_line = elim (is_assignable t.postings) as (λ b. (cond b (with_postings t (made_postings told [] t.postings)) t).line ≡ t.line) [ true ↦ refl | false ↦ refl ]

  alone_out : cause_alone (made told t).postings ≡ Some cause.Range → IsChecked told others t (out_of_range t)
  alone_out is =
      let fault : ℕ → Result Txn Fault = λ n. Err (record { line = n; cause = cause.Range }) in
      inl (ap (λ (c : Option Cause). judged (settled (made told t)) c (first_failing told others [] (in_order (settled (made told t)).postings))) is ∙ ap fault made_line)

  -- while its assignments were made
  pub making_out : is_assignable t.postings ≡ true → are_in_range told (made told t).postings ≡ false → IsChecked told others t (out_of_range t)
  making_out assignable out = by (fits_alone (made told t).postings) refl
    where
      none : has_assignment (made told t).postings ≡ false
      none = ap (λ (x : Txn). has_assignment x.postings) (made_here told t assignable) ∙ unassigned told [] t.postings

      one : has_two_missing (made told t).postings ≡ false
      one = ap (λ (x : Txn). has_two_missing x.postings) (made_here told t assignable) ∙ made_two told [] t.postings ∙ assignable_one t.postings assignable

      by : (b : Bool) → fits_alone (made told t).postings ≡ b → IsChecked told others t (out_of_range t)
      by true e = inr (
        refl,
        record {
          first = ap comes_first (alone_is (made told t).postings none one ∙ ap (λ (b : Bool). cond b (unbalanced_by (unbalanced_sums (made told t).postings)) (Some cause.Range)) e) ∙ unbalanced_later (unbalanced_sums (made told t).postings);
          range = asked_out told (made told t).postings e (solved_out told (made told t).postings none out);
        },
      )
      by false e = alone_out (alone_is (made told t).postings none one ∙ ap (λ (b : Bool). cond b (unbalanced_by (unbalanced_sums (made told t).postings)) (Some cause.Range)) e)

  -- while its assertions were judged
  pub judging_out : has_assignment (made told t).postings ≡ false → cause_alone (made told t).postings ≡ None → are_in_range told (settled (made told t)).postings ≡ false → IsChecked told others t (out_of_range t)
  judging_out none nothing out = inr (
    refl,
    record {
      first = ap comes_first nothing;
      range = asked_out told (made told t).postings (fits_without (made told t).postings nothing none) out;
    },
  )
