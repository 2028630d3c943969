-- Where the assignments of a group can't be told, its turnover is out of range.
use Rattle.std.proofs.Common.{◌≡◌, ℕ, ◌+◌, ◌==◌, Bool, true, false, not, ◌&&◌, ◌||◌, cond, ltb, filter, List, [], ◌∷◌, ◌++◌, map, Option, Some, None, is_none, unwrap_or, refl, sym, ap, ◌∙◌, subst, arith}
use Rattle.std.specs.List.{flat_map, list_any, AllByRecursion}
use Rattle.std.proofs.lemmas.Bool.{false≢true}
use Rattle.std.proofs.lemmas.Bool.Decides.{nat_tests}
use Rattle.std.proofs.lemmas.Grind.{flat_map-append}
use Rattle.std.proofs.lemmas.List.{append-nil, append_assoc}
use Rattle.std.proofs.lemmas.List.Sums.{sum_by-cons}
use Rattle.hl_num.specs.Decimal.{Decimal}
use Rattle.book.specs.declared.amount.Amount.{Amount}
use Rattle.book.specs.declared.amount.Assertion.{Assertion}
use Rattle.book.specs.declared.amount.Cost.{Cost}
use Rattle.book.specs.declared.amount.Cost.TheVariants.{Total}
use Rattle.book.specs.declared.fault.Cause.TheVariants as cause
use Rattle.book.specs.declared.transaction.Posting.{Posting}
use Rattle.book.specs.declared.transaction.Side.{Side}
use Rattle.book.specs.declared.transaction.Side.TheVariants.{Real, Balanced, Free}
use Rattle.book.specs.declared.transaction.Txn.{Txn}
use Rattle.book.specs.SumsBefore.{is_assigned}
use Rattle.entry_balance.specs.Values.{Value, value_of, cost_values}
use Rattle.entry_balance.specs.Tally.{numbers_of, turnover_fits}
use Rattle.entry_balance.specs.Entry.{absent_count, assignment_fault, cause_alone, costed_posting, fits_alone, found_posting, found_values, from_amount, has_assignment, has_two_missing, is_absent, is_assignable, is_missing, is_real_of, lacks_two, missing_count, moved, moved_by, plain_amount, recorded_cost, same_side, settled, solved, solved_posting, unbalanced_by, unbalanced_sums, with_postings}
use Rattle.entry_balance.proofs.Adding.{false-from}
use Rattle.entry_balance.proofs.Covers.{Covers, covered-fits, covers_none, covers_same, covers_left, covers_both, at_most-append}
use Rattle.entry_balance.proofs.Turnover.{AllAtMost, magnitude, magnitude-append, numbers-append, at_most-left, at_most-right}
use Rattle.balancing.specs.declared.groups.Part.TheVariants as taken
use Rattle.balancing.specs.Groups.{day_of}
use Rattle.balancing.specs.Parts.{is_chosen, is_found, part_on}
use Rattle.balancing.specs.Assigned.{given_by, given_posting_by, given_postings_by}
use Rattle.balancing.specs.Load.{group_cause, fault_at, fault_of_group, moved_on}
use Rattle.balancing.proofs.Given.{assignable_days, assignable_one, given-unassigned, given_here_by}

-- ---- the order of what is moved

pub covers_swap : (xs ys zs : List Value) → Covers (xs ++ (ys ++ zs)) (ys ++ (xs ++ zs))
covers_swap xs ys zs = record {
  each = λ s. record {
    less = λ q. omega (
      arith,
      ap (magnitude q) (numbers-append s xs (ys ++ zs)),
      magnitude-append q (numbers_of s xs) (numbers_of s (ys ++ zs)),
      ap (magnitude q) (numbers-append s ys zs),
      magnitude-append q (numbers_of s ys) (numbers_of s zs),
      ap (magnitude q) (numbers-append s ys (xs ++ zs)),
      magnitude-append q (numbers_of s ys) (numbers_of s (xs ++ zs)),
      ap (magnitude q) (numbers-append s xs zs),
      magnitude-append q (numbers_of s xs) (numbers_of s zs),
    );
    few = λ q all.
        let first = subst (AllAtMost q) (numbers-append s xs (ys ++ zs)) all in
        let one = at_most-left q (numbers_of s xs) (numbers_of s (ys ++ zs)) first in
        let rest = subst (AllAtMost q) (numbers-append s ys zs) (at_most-right q (numbers_of s xs) (numbers_of s (ys ++ zs)) first) in
        let two = at_most-left q (numbers_of s ys) (numbers_of s zs) rest in
        let three = at_most-right q (numbers_of s ys) (numbers_of s zs) rest in
        subst (AllAtMost q) (sym (numbers-append s ys (xs ++ zs)))
        (at_most-append q (numbers_of s ys) (numbers_of s (xs ++ zs)) two (subst (AllAtMost q) (sym (numbers-append s xs zs)) (at_most-append q (numbers_of s xs) (numbers_of s zs) one three)));
  };
}

pub covers_through : (xs ys zs : List Value) → Covers xs ys → Covers ys zs → Covers xs zs
covers_through xs ys zs h k = record {
  each = λ s. record {
    less = λ q. omega (arith, (h.each s).less q, (k.each s).less q);
    few = λ q all. (k.each s).few q ((h.each s).few q all);
  };
}

eqb-yes : (a b : ℕ) → a ≡ b → (a == b) ≡ true
eqb-yes a b h = grind (arith, nat_tests)

module _ (day : ℕ) (t : Txn) (here : t.day.0 ≡ day) where
  on_day : (p : Posting) → p.day ≡ None → (day_of t p == day) ≡ true
  on_day p none = eqb-yes (day_of t p) day (ap (λ d. (unwrap_or d t.day).0) none ∙ here)

  whole_covers : (ps : List Posting) → AllByRecursion (λ p. p.day ≡ None) ps → Covers (moved (filter (is_chosen taken.All day t) ps)) (moved ps)
  whole_covers [] h = covers_none []
  whole_covers (p ∷ ps) h =
      subst (λ (b : Bool). Covers (moved (cond (b && true) (p ∷ filter (is_chosen taken.All day t) ps) (filter (is_chosen taken.All day t) ps))) (moved_by p ++ moved ps)) (sym (on_day p h.0))
      (covers_both (moved_by p) (moved_by p) (moved ps) (moved (filter (is_chosen taken.All day t) ps)) (covers_same (moved_by p)) (whole_covers ps h.1))

  parts_covers : (ps : List Posting) → AllByRecursion (λ p. p.day ≡ None) ps → Covers (moved (filter (is_chosen taken.ButFound day t) ps) ++ moved (filter (is_chosen taken.Found day t) ps)) (moved ps)
  parts_covers [] h = covers_none []
  parts_covers (p ∷ ps) h =
      let one = filter (is_chosen taken.ButFound day t) ps in
      let two = filter (is_chosen taken.Found day t) ps in
      let rest = parts_covers ps h.1 in
      subst (λ (b : Bool). Covers (moved (cond (b && not (is_found p)) (p ∷ one) one) ++ moved (cond (b && is_found p) (p ∷ two) two)) (moved_by p ++ moved ps)) (sym (on_day p h.0))
      (elim (is_found p) as (λ f. Covers (moved (cond (not f) (p ∷ one) one) ++ moved (cond f (p ∷ two) two)) (moved_by p ++ moved ps)) [
        | true ↦ covers_through (moved one ++ (moved_by p ++ moved two)) (moved_by p ++ (moved one ++ moved two)) (moved_by p ++ moved ps) (covers_swap (moved one) (moved_by p) (moved two))
            (covers_both (moved_by p) (moved_by p) (moved ps) (moved one ++ moved two) (covers_same (moved_by p)) rest)
        | false ↦ subst (λ (vs : List Value). Covers vs (moved_by p ++ moved ps)) (sym (append_assoc (moved_by p) (moved one) (moved two)))
            (covers_both (moved_by p) (moved_by p) (moved ps) (moved one ++ moved two) (covers_same (moved_by p)) rest)
      ])

  -- what a group moves, in whatever order
  on_covers : AllByRecursion (λ p. p.day ≡ None) t.postings → Covers (moved_on day t) (moved t.postings)
  on_covers h =
      elim (list_any is_assigned t.postings) as (λ b. Covers (moved (cond b (part_on taken.ButFound day t ++ part_on taken.Found day t) (part_on taken.All day t))) (moved t.postings)) [
        | true ↦ subst (λ (vs : List Value). Covers vs (moved t.postings)) (sym (flat_map-append moved_by (part_on taken.ButFound day t) (part_on taken.Found day t))) (parts_covers t.postings h)
        | false ↦ whole_covers t.postings h
      ]

-- ---- what balancing finds

costed_covers : (cost : Option (List ℕ × Value)) (p : Posting) (a : Amount) → p.amount ≡ Some a → Covers (moved_by (costed_posting cost p)) (moved_by p)
costed_covers None p a is = covers_same (moved_by p)
costed_covers (Some c) p a is = by (is_real_of c.0 p) p.cost refl
  where
    moves : Option Cost → List Value
    moves cost = from_amount (λ a. value_of a ∷ cost_values a cost) p.amount

    plain : p.cost ≡ None → Covers (moves (Some (Total (plain_amount c.1)))) (moved_by p)
    plain none = subst (λ (x : Option Amount × Option Cost). Covers (from_amount (λ a. value_of a ∷ cost_values a (Some (Total (plain_amount c.1)))) x.0) (from_amount (λ a. value_of a ∷ cost_values a x.1) x.0)) (λ i. (sym is i, sym none i))
        (covers_left (value_of a ∷ []) (cost_values a (Some (Total (plain_amount c.1)))))

    by : (b : Bool) (o : Option Cost) → p.cost ≡ o → Covers (moved_by (cond (b && is_none o) (record p { cost = Some (Total (plain_amount c.1)); costed = true }) p)) (moved_by p)
    by true None e = plain e
    by true (Some x) e = covers_same (moved_by p)
    by false o e = covers_same (moved_by p)

pub solved_covers : (all ps : List Posting) → Covers (moved (flat_map (λ p. solved_posting all p p.amount) ps)) (moved ps)
solved_covers all [] = covers_none []
solved_covers all (p ∷ ps) =
    subst (λ (vs : List Value). Covers vs (moved_by p ++ moved ps)) (sym (flat_map-append moved_by (solved_posting all p p.amount) (flat_map (λ p. solved_posting all p p.amount) ps)))
    (covers_both (moved_by p) (moved (solved_posting all p p.amount)) (moved ps) (moved (flat_map (λ p. solved_posting all p p.amount) ps)) (by p.amount refl) (solved_covers all ps))
  where
    by : (a : Option Amount) → p.amount ≡ a → Covers (moved (solved_posting all p a)) (moved_by p)
    by None e = subst (λ (o : Option Amount). Covers (moved (solved_posting all p None)) (from_amount (λ a. value_of a ∷ cost_values a p.cost) o)) (sym e) (covers_none _)
    by (Some a) e = subst (λ (vs : List Value). Covers vs (moved_by p)) (sym (append-nil (moved_by (costed_posting (recorded_cost all) p)))) (costed_covers (recorded_cost all) p a e)

-- ---- the days

module _ (enter : Decimal → Decimal) where
  given_undated : (seen ps : List Posting) → AllByRecursion (λ p. p.day ≡ None) ps → AllByRecursion (λ p. p.day ≡ None) (given_postings_by enter seen ps)
  given_undated seen [] h = tt
  given_undated seen (p ∷ ps) h = (by p.amount p.wanted, given_undated (seen ++ given_posting_by enter seen p p.amount p.wanted ∷ []) ps h.1)
    where
      by : (a : Option Amount) (w : Option Assertion) → (given_posting_by enter seen p a w).day ≡ None
      by (Some a) w = h.0
      by None None = h.0
      by None (Some w) = h.0

all-append : (P : Posting → Type 0) (xs ys : List Posting) → AllByRecursion P xs → AllByRecursion P ys → AllByRecursion P (xs ++ ys)
all-append P [] ys h k = k
all-append P (x ∷ xs) ys h k = (h.0, all-append P xs ys h.1 k)

solved_undated : (all ps : List Posting) → AllByRecursion (λ p. p.day ≡ None) ps → AllByRecursion (λ p. p.day ≡ None) (flat_map (λ p. solved_posting all p p.amount) ps)
solved_undated all [] h = tt
solved_undated all (p ∷ ps) h = all-append (λ p. p.day ≡ None) (solved_posting all p p.amount) (flat_map (λ p. solved_posting all p p.amount) ps) (by p.amount) (solved_undated all ps h.1)
  where
    found : (vs : List Value) → AllByRecursion (λ p. p.day ≡ None) (map (found_posting p) vs)
    found [] = tt
    found (v ∷ vs) = (h.0, found vs)

    costed : (cost : Option (List ℕ × Value)) → (costed_posting cost p).day ≡ None
    costed None = h.0
    costed (Some c) = elim (is_real_of c.0 p && is_none p.cost) as (λ b. (cond b (record p { cost = Some (Total (plain_amount c.1)); costed = true }) p).day ≡ None) [ true ↦ h.0 | false ↦ h.0 ]

    by : (a : Option Amount) → AllByRecursion (λ p. p.day ≡ None) (solved_posting all p a)
    by None = found (found_values p.side all)
    by (Some a) = (costed (recorded_cost all), tt)

-- ---- the cause

module _ (enter : Decimal → Decimal) where
  absent_one : (seen : List Posting) (side : Side) (p : Posting) → is_missing side (given_posting_by enter seen p p.amount p.wanted) ≡ is_absent side p
  absent_one seen side p = by p.amount p.wanted refl refl
    where
      none_and : (s w : Bool) → (s && false) ≡ ((s && false) && w)
      none_and true w = refl
      none_and false w = refl

      all_and : (s : Bool) → (s && true) ≡ ((s && true) && true)
      all_and true = refl
      all_and false = refl

      no_and : (s : Bool) → (s && false) ≡ ((s && true) && false)
      no_and true = refl
      no_and false = refl

      by : (a : Option Amount) (w : Option Assertion) → p.amount ≡ a → p.wanted ≡ w → is_missing side (given_posting_by enter seen p a w) ≡ is_absent side p
      by (Some a) w is_a is_w =
          ap (λ (x : Option Amount). same_side side p.side && is_none x) is_a ∙ none_and (same_side side p.side) (is_none p.wanted)
          ∙ sym (ap (λ (x : Option Amount). (same_side side p.side && is_none x) && is_none p.wanted) is_a)
      by None None is_a is_w =
          ap (λ (x : Option Amount). same_side side p.side && is_none x) is_a ∙ all_and (same_side side p.side)
          ∙ sym (λ i. (same_side side p.side && is_none (is_a i)) && is_none (is_w i))
      by None (Some w) is_a is_w = no_and (same_side side p.side) ∙ sym (λ i. (same_side side p.side && is_none (is_a i)) && is_none (is_w i))

  absent_all : (seen : List Posting) (side : Side) (ps : List Posting) → missing_count side (given_postings_by enter seen ps) ≡ absent_count side ps
  absent_all seen side [] = refl
  absent_all seen side (p ∷ ps) =
      let q = given_posting_by enter seen p p.amount p.wanted in
      sum_by-cons (λ x. cond (is_missing side x) 1 0) q (given_postings_by enter (seen ++ q ∷ []) ps)
      ∙ (λ i. cond {A = ℕ} (absent_one seen side p i) 1 0 + absent_all (seen ++ q ∷ []) side ps i)
      ∙ sym (sum_by-cons (λ x. cond (is_absent side x) 1 0) p ps)

  given_two : (seen ps : List Posting) → has_two_missing (given_postings_by enter seen ps) ≡ lacks_two ps
  given_two seen ps = λ i. (ltb 1 (absent_all seen Real ps i) || ltb 1 (absent_all seen Balanced ps i)) || ltb 0 (absent_all seen Free ps i)

module _ (ps : List Posting) where
  range_rest : (fits : Bool) (sums : List Value) → group_cause false (cond fits (unbalanced_by sums) (Some cause.Range)) ≡ Some cause.Range
  range_rest true [] = refl
  range_rest true (v ∷ vs) = refl
  range_rest false sums = refl

  range_cause : has_assignment ps ≡ false → has_two_missing ps ≡ false → group_cause false (cause_alone ps) ≡ Some cause.Range
  range_cause none one =
      ap (λ (b : Bool). group_cause false (cond b (assignment_fault ps) (cond (has_two_missing ps) (Some cause.TwoMissing) (cond (fits_alone ps) (unbalanced_by (unbalanced_sums ps)) (Some cause.Range))))) none
      ∙ ap (λ (b : Bool). group_cause false (cond b (Some cause.TwoMissing) (cond (fits_alone ps) (unbalanced_by (unbalanced_sums ps)) (Some cause.Range)))) one
      ∙ range_rest (fits_alone ps) (unbalanced_sums ps)

module _ (enter : Decimal → Decimal) where
  -- the fault of a group whose assignments can't be told
  pub range_fault : (seen : List Posting) (w : Txn) (day : ℕ) → is_assignable w.postings ≡ true → w.day.0 ≡ day → turnover_fits (moved (seen ++ given_postings_by enter seen w.postings)) ≡ false → fault_of_group (moved seen) day (Some (given_by enter seen w)) ≡ Some (record { line = w.line; cause = cause.Range })
  range_fault seen w day assignable here range =
      let made = given_postings_by enter seen w.postings in
      let t = with_postings w made in
      let undated = solved_undated made made (given_undated enter seen w.postings (assignable_days w.postings assignable)) in
      let covers : Covers (moved seen ++ moved_on day (settled t)) (moved (seen ++ made)) =
      subst (Covers (moved seen ++ moved_on day (settled t))) (sym (flat_map-append moved_by seen made))
      (covers_both (moved seen) (moved seen) (moved made) (moved_on day (settled t)) (covers_same (moved seen))
      (covers_through (moved_on day (settled t)) (moved (solved made)) (moved made) (on_covers day (settled t) here undated) (solved_covers made made))) in
      let not_fits : turnover_fits (moved seen ++ moved_on day (settled t)) ≡ false = false-from _ (λ fits. false≢true (sym range ∙ covered-fits (moved seen ++ moved_on day (settled t)) (moved (seen ++ made)) covers fits)) in
      ap (λ (x : Txn). fault_of_group (moved seen) day (Some x)) (given_here_by enter seen w assignable)
      ∙ ap (λ (b : Bool). fault_at w.line (group_cause b (cause_alone made))) not_fits
      ∙ ap (fault_at w.line) (range_cause made (given-unassigned enter seen w.postings) (given_two enter seen w.postings ∙ assignable_one w.postings assignable))
