-- Balancing doesn't see lines.
use Rattle.std.proofs.Common.{◌≡◌, ℕ, Bool, true, false, cond, ◌&&◌, ◌||◌, not, nat_lt, ◌==◌, List, [], ◌∷◌, ◌++◌, map, filter, Option, Some, None, is_none, refl, sym, ap, ◌∙◌}
use Rattle.std.specs.List.{flat_map, find, list_all}
use Rattle.book.specs.declared.amount.Amount.{Amount}
use Rattle.book.specs.declared.amount.Cost.TheVariants.{Total}
use Rattle.book.specs.declared.fault.Cause.TheVariants as cause
use Rattle.book.specs.declared.transaction.Posting.{Posting}
use Rattle.book.specs.declared.transaction.Txn.{Txn}
use Rattle.book.specs.declared.transaction.Side.{Side}
use Rattle.book.specs.declared.transaction.Side.TheVariants.{Real, Balanced, Free}
use Rattle.entry_balance.specs.Values.{Value, absolute_value}
use Rattle.entry_balance.specs.Tally.{numbers_of, sums_of, turnover_fits}
use Rattle.entry_balance.specs.Entry.{absent_count, amount_cost_fits, are_opposite, assignment_fault, cause_alone, costed_posting, exchanges, fits_alone, found_posting, found_values, has_assignment, has_two_missing, is_absent, is_assignment, is_dated, is_missing, is_not_of, is_nothing_at, is_of_either, is_plain, is_real_of, lacks_two, left_over, missing_count, moved, moved_by, needed, or_else, or_nothing, places_among, plain_amount, precision_of, recorded, recorded_between, recorded_cost, second_is_first, settled, share_of, side_values, solved, solved_posting, unbalanced_by, unbalanced_sums, with_postings, written_amount, written_amounts, written_cost, written_costs}
use Rattle.balancing.specs.Solves.{is_allowed, is_unmarked}
use Rattle.moved_lines.specs.Relined.{relined_posting, relined_txn}
use Rattle.moved_lines.proofs.Lists.{all-same, any-same, count-same, flat-same, map-both}

module _ (f : ℕ → ℕ) where
  -- ---- sums

  values-same : (side : Side) (ps : List Posting) → side_values side (map (relined_posting f) ps) ≡ side_values side ps
  values-same side ps = flat-same (relined_posting f) (share_of side) (λ p. refl) ps

  amounts-same : (ps : List Posting) → written_amounts (map (relined_posting f) ps) ≡ written_amounts ps
  amounts-same ps = flat-same (relined_posting f) (λ (p : Posting). written_amount p.filled p.amount) (λ p. refl) ps

  costs-same : (ps : List Posting) → written_costs (map (relined_posting f) ps) ≡ written_costs ps
  costs-same ps = flat-same (relined_posting f) (λ (p : Posting). written_cost p.cost) (λ p. refl) ps

  precision-same : (symbol : List ℕ) (ps : List Posting) → precision_of symbol (map (relined_posting f) ps) ≡ precision_of symbol ps
  precision-same symbol ps =
      λ i. or_else (places_among (numbers_of symbol (amounts-same ps i))) (places_among (numbers_of symbol (costs-same ps i)))

  left-same : (side : Side) (ps : List Posting) → left_over side (map (relined_posting f) ps) ≡ left_over side ps
  left-same side ps =
      λ i. filter (λ (sum : Value). not (is_nothing_at (precision-same sum.0 ps i) sum.1)) (sums_of (values-same side ps i))

  -- ---- an exchange

  exchanges-same : (ps : List Posting) → exchanges (map (relined_posting f) ps) ≡ exchanges ps
  exchanges-same ps = λ i. all-same (relined_posting f) is_plain (λ p. refl) ps i && are_opposite (left-same Real ps i)

  found-first : (a : List ℕ) (q : Posting → Bool) → ((p : Posting) → q (relined_posting f p) ≡ q p) → (ps : List Posting)
      → is_not_of a (find q (map (relined_posting f) ps)) ≡ is_not_of a (find q ps)
  found-first a q e [] = refl
  found-first a q e (p ∷ ps) =
      ap (λ (b : Bool). is_not_of a (cond b (Some (relined_posting f p)) (find q (map (relined_posting f) ps)))) (e p)
      ∙ here (q p) (found-first a q e ps)
    where
      here : (b : Bool) → is_not_of a (find q (map (relined_posting f) ps)) ≡ is_not_of a (find q ps)
          → is_not_of a (cond b (Some (relined_posting f p)) (find q (map (relined_posting f) ps))) ≡ is_not_of a (cond b (Some p) (find q ps))
      here true h = refl
      here false h = h

  second-same : (a b : List ℕ) (ps : List Posting) → second_is_first a b (map (relined_posting f) ps) ≡ second_is_first a b ps
  second-same a b ps = found-first a (is_of_either a b) (λ p. refl) ps

  recorded-same : (symbol : List ℕ) (other : Value) (ps : List Posting) → recorded symbol other (map (relined_posting f) ps) ≡ recorded symbol other ps
  recorded-same symbol other ps =
      let told : ℕ → Option (List ℕ × Value) = λ n. cond (n == 1) (Some (symbol, absolute_value other)) None in
      ap told (count-same (relined_posting f) (is_real_of symbol) (λ p. refl) ps)

  between-same : (vs : List Value) (ps : List Posting) → recorded_between vs (map (relined_posting f) ps) ≡ recorded_between vs ps
  between-same [] ps = refl
  between-same (a ∷ []) ps = refl
  between-same (a ∷ b ∷ []) ps = λ i. cond (second-same a.0 b.0 ps i) (recorded-same b.0 a ps i) (recorded-same a.0 b ps i)
  between-same (a ∷ b ∷ c ∷ vs) ps = refl

  cost-same : (ps : List Posting) → recorded_cost (map (relined_posting f) ps) ≡ recorded_cost ps
  cost-same ps = λ i. cond (exchanges-same ps i) (between i) None
    where
      between : recorded_between (left_over Real (map (relined_posting f) ps)) (map (relined_posting f) ps) ≡ recorded_between (left_over Real ps) ps
      between = (λ i. recorded_between (left-same Real ps i) (map (relined_posting f) ps)) ∙ between-same (left_over Real ps) ps

  -- ---- what is found

  found-same : (side : Side) (ps : List Posting) → found_values side (map (relined_posting f) ps) ≡ found_values side ps
  found-same side ps = ap (λ (vs : List Value). or_nothing (needed (sums_of vs))) (values-same side ps)

  costed-moved : (cost : Option (List ℕ × Value)) (p : Posting) → costed_posting cost (relined_posting f p) ≡ relined_posting f (costed_posting cost p)
  costed-moved None p = refl
  costed-moved (Some cost) p = here (is_real_of cost.0 p && is_none p.cost)
    where
      here : (b : Bool) → cond b (record (relined_posting f p) { cost = Some (Total (plain_amount cost.1)); costed = true }) (relined_posting f p)
          ≡ relined_posting f (cond b (record p { cost = Some (Total (plain_amount cost.1)); costed = true }) p)
      here true = refl
      here false = refl

  filled-moved : (p : Posting) (vs : List Value) → map (found_posting (relined_posting f p)) vs ≡ map (relined_posting f) (map (found_posting p) vs)
  filled-moved p [] = refl
  filled-moved p (v ∷ vs) = λ i. relined_posting f (found_posting p v) ∷ filled-moved p vs i

  one-moved : (all : List Posting) (p : Posting) (a : Option Amount) → solved_posting (map (relined_posting f) all) (relined_posting f p) a ≡ map (relined_posting f) (solved_posting all p a)
  one-moved all p None =
      ap (λ (vs : List Value). map (found_posting (relined_posting f p)) vs) (found-same p.side all) ∙ filled-moved p (found_values p.side all)
  one-moved all p (Some a) =
      ap (λ (q : Posting). q ∷ []) (ap (λ (cost : Option (List ℕ × Value)). costed_posting cost (relined_posting f p)) (cost-same all) ∙ costed-moved (recorded_cost all) p)

  each-moved : (all ps : List Posting) → flat_map (λ p. solved_posting (map (relined_posting f) all) p p.amount) (map (relined_posting f) ps)
      ≡ map (relined_posting f) (flat_map (λ p. solved_posting all p p.amount) ps)
  each-moved all [] = refl
  each-moved all (p ∷ ps) =
      (λ i. one-moved all p p.amount i ++ each-moved all ps i)
      ∙ sym (map-both (relined_posting f) (solved_posting all p p.amount) (flat_map (λ p. solved_posting all p p.amount) ps))

  solved-moved : (ps : List Posting) → solved (map (relined_posting f) ps) ≡ map (relined_posting f) (solved ps)
  solved-moved ps = each-moved ps ps

  pub settled-moved : (t : Txn) → settled (relined_txn f t) ≡ relined_txn f (settled t)
  settled-moved t = λ i. with_postings (relined_txn f t) (solved-moved t.postings i)

  -- ---- the balance

  pub moved-same : (ps : List Posting) → moved (map (relined_posting f) ps) ≡ moved ps
  moved-same ps = flat-same (relined_posting f) moved_by (λ p. refl) ps

  fits-same : (ps : List Posting) → fits_alone (map (relined_posting f) ps) ≡ fits_alone ps
  fits-same ps = λ i. all-same (relined_posting f) (λ (p : Posting). amount_cost_fits p.amount p.cost) (λ p. refl) ps i && turnover_fits (all i)
    where
      all : moved (solved (map (relined_posting f) ps)) ≡ moved (solved ps)
      all = ap moved (solved-moved ps) ∙ moved-same (solved ps)

  missing-same : (side : Side) (ps : List Posting) → missing_count side (map (relined_posting f) ps) ≡ missing_count side ps
  missing-same side ps = count-same (relined_posting f) (is_missing side) (λ p. refl) ps

  absent-same : (side : Side) (ps : List Posting) → absent_count side (map (relined_posting f) ps) ≡ absent_count side ps
  absent-same side ps = count-same (relined_posting f) (is_absent side) (λ p. refl) ps

  two-same : (ps : List Posting) → has_two_missing (map (relined_posting f) ps) ≡ has_two_missing ps
  two-same ps = λ i. nat_lt 1 (missing-same Real ps i) || nat_lt 1 (missing-same Balanced ps i) || nat_lt 0 (missing-same Free ps i)

  lacks-same : (ps : List Posting) → lacks_two (map (relined_posting f) ps) ≡ lacks_two ps
  lacks-same ps = λ i. nat_lt 1 (absent-same Real ps i) || nat_lt 1 (absent-same Balanced ps i) || nat_lt 0 (absent-same Free ps i)

  assignment-same : (ps : List Posting) → has_assignment (map (relined_posting f) ps) ≡ has_assignment ps
  assignment-same ps = any-same (relined_posting f) is_assignment (λ p. refl) ps

  fault-same : (ps : List Posting) → assignment_fault (map (relined_posting f) ps) ≡ assignment_fault ps
  fault-same ps = λ i. cond (lacks-same ps i) (Some cause.TwoMissing) (cond (any-same (relined_posting f) is_dated (λ p. refl) ps i) (Some cause.NotAllowed) None)

  unbalanced-same : (ps : List Posting) → unbalanced_sums (map (relined_posting f) ps) ≡ unbalanced_sums ps
  unbalanced-same ps =
      λ i. cond (nat_lt 0 (missing-same Real ps i) || exchanges-same ps i) [] (left-same Real ps i)
      ++ cond (nat_lt 0 (missing-same Balanced ps i)) [] (left-same Balanced ps i)

  pub cause-same : (ps : List Posting) → cause_alone (map (relined_posting f) ps) ≡ cause_alone ps
  cause-same ps =
      λ i. cond (assignment-same ps i) (fault-same ps i)
      (cond (two-same ps i) (Some cause.TwoMissing) (cond (fits-same ps i) (unbalanced_by (unbalanced-same ps i)) (Some cause.Range)))

  pub allowed-same : (t : Txn) → is_allowed (relined_txn f t) ≡ is_allowed t
  allowed-same t = λ i. not (assignment-same t.postings i) || is_none (fault-same t.postings i)

  pub unmarked-same : (ps : List Posting) → list_all is_unmarked (map (relined_posting f) ps) ≡ list_all is_unmarked ps
  unmarked-same ps = all-same (relined_posting f) is_unmarked (λ p. refl) ps
