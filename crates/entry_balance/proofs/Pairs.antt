-- A pair of postings is solved by the opposite amount, and nothing is wrong with it but a turnover that is out of range.
use Rattle.std.proofs.Common.{◌≡◌, ◌≢◌, ℕ, ◌+◌, Bool, true, false, not, ◌&&◌, ◌||◌, cond, nat_lt, List, [], ◌∷◌, ◌++◌, map, filter, length, get_or, set, Option, Some, None, is_none, is_some, refl, sym, ap, ◌∙◌, arith}
use Rattle.std.proofs.lemmas.Bool.{false≢true}
use Rattle.std.proofs.lemmas.List.Sums.{sum_by-cons}
use Rattle.hl_num.specs.Decimal.{negated}
use Rattle.book.specs.declared.amount.Amount.{Amount}
use Rattle.book.specs.declared.amount.Assertion.{Assertion}
use Rattle.book.specs.declared.amount.Cost.{Cost}
use Rattle.book.specs.declared.fault.Cause.{Cause}
use Rattle.book.specs.declared.fault.Cause.TheVariants as cause
use Rattle.book.specs.declared.transaction.Posting.{Posting}
use Rattle.book.specs.declared.transaction.Side.{Side}
use Rattle.book.specs.declared.transaction.Side.TheVariants.{Real, Balanced, Free}
use Rattle.book.specs.declared.transaction.Txn.{Txn}
use Rattle.entry_balance.specs.declared.entry.Settled.{Settled}
use Rattle.entry_balance.specs.Values.{Value, value_of, at_cost}
use Rattle.entry_balance.specs.Tally.{sums_of, turnover_fits}
use Rattle.entry_balance.specs.Entry.{same_side, is_missing, missing_count, misses, has_two_missing, has_assignment, from_amount, share_of, side_values, precision_of, is_nothing, is_nothing_at, left_over, are_opposite, is_plain, are_plain, exchanges, recorded_between, recorded_cost, found_posting, needed, or_nothing, found_values, costed_posting, solved_posting, solved, moved, optional_cost_fits, amount_cost_fits, costs_fit, unbalanced_sums, unbalanced_by, cause_alone, settled}
use Rattle.entry_balance.specs.Pair.{is_given, gives, takes, is_pair, opposite, with_amount}
use Rattle.entry_balance.specs.Settled.{IsSettled}
use Rattle.entry_balance.proofs.Causes.{cause_solved, solved_settled}
use Rattle.entry_balance.proofs.Named.{left_true, right_true}
use Rattle.entry_balance.proofs.Turnover.{sums-push}

real_is : (side : Side) → same_side Real side ≡ true → side ≡ Real
real_is Real h = refl
real_is Balanced h = absurd (false≢true h)
real_is Free h = absurd (false≢true h)

none_is : {X : Type 0} (o : Option X) → is_none o ≡ true → o ≡ None
none_is None h = refl
none_is (Some x) h = absurd (false≢true h)

and_no : (b : Bool) → (b && false) ≡ false
and_no true = refl
and_no false = refl

and_yes : (b : Bool) → (b && true) ≡ b
and_yes true = refl
and_yes false = refl

same_none : {X : Type 0} (b : Bool) → cond {A = List X} b [] [] ≡ []
same_none true = refl
same_none false = refl

module _ (a b : Posting) (x : Amount) (amount : a.amount ≡ Some x) (missing : b.amount ≡ None) (side_a : a.side ≡ Real) (side_b : b.side ≡ Real) (cost : a.cost ≡ None) (wanted : b.wanted ≡ None) (some : not (is_nothing x.value) ≡ true) where
  abbrev ps : List Posting
  ps = a ∷ b ∷ []

  unplain : are_plain ps ≡ false
  unplain = ap (λ (o : Option Amount). is_plain a && ((is_some o && is_none b.cost) && true)) missing ∙ and_no (is_plain a)

  unexchanged : exchanges ps ≡ false
  unexchanged = ap (λ (t : Bool). t && are_opposite (left_over Real ps)) unplain

  unrecorded : recorded_cost ps ≡ None
  unrecorded = ap (λ (t : Bool). cond t (recorded_between (left_over Real ps) ps) None) unexchanged

  share_a : share_of Real a ≡ value_of x ∷ []
  share_a =
      ap (λ (s : Side). cond (same_side Real s) (from_amount (λ (y : Amount). at_cost y a.cost ∷ []) a.amount) []) side_a
      ∙ ap (from_amount (λ (y : Amount). at_cost y a.cost ∷ [])) amount
      ∙ ap (λ (c : Option Cost). at_cost x c ∷ []) cost

  share_b : share_of Real b ≡ []
  share_b =
      ap (λ (o : Option Amount). cond (same_side Real b.side) (from_amount (λ (y : Amount). at_cost y b.cost ∷ []) o) []) missing
      ∙ same_none (same_side Real b.side)

  values : side_values Real ps ≡ value_of x ∷ []
  values =
      ap (λ (xs : List Value). xs ++ (share_of Real b ++ [])) share_a
      ∙ ap (λ (ys : List Value). value_of x ∷ (ys ++ [])) share_b

  sums : sums_of (side_values Real ps) ≡ value_of x ∷ []
  sums = ap sums_of values ∙ sums-push [] x.symbol x.value

  found : found_values Real ps ≡ (x.symbol, negated x.value) ∷ []
  found =
      ap (λ (vs : List Value). or_nothing (needed vs)) sums
      ∙ ap (λ (t : Bool). or_nothing (map (λ (sum : Value). (sum.0, negated sum.1)) (cond t (value_of x ∷ []) []))) some

  first : solved_posting ps a a.amount ≡ a ∷ []
  first = ap (solved_posting ps a) amount ∙ ap (λ (c : Option (List ℕ × Value)). costed_posting c a ∷ []) unrecorded

  second : solved_posting ps b b.amount ≡ with_amount b (opposite a.amount) ∷ []
  second =
      ap (solved_posting ps b) missing
      ∙ ap (λ (s : Side). map (found_posting b) (found_values s ps)) side_b
      ∙ ap (map (found_posting b)) found
      ∙ ap (λ (o : Option Amount). with_amount b (opposite o) ∷ []) (sym amount)

  both : solved ps ≡ a ∷ with_amount b (opposite a.amount) ∷ []
  both =
      ap (λ (xs : List Posting). xs ++ (solved_posting ps b b.amount ++ [])) first
      ∙ ap (λ (ys : List Posting). a ∷ (ys ++ [])) second

  -- ---- what is missing

  given_a : (side : Side) → is_missing side a ≡ false
  given_a side = ap (λ (o : Option Amount). same_side side a.side && is_none o) amount ∙ and_no (same_side side a.side)

  missing_b : (side : Side) → is_missing side b ≡ same_side side Real
  missing_b side =
      ap (λ (o : Option Amount). same_side side b.side && is_none o) missing
      ∙ ap (λ (s : Side). same_side side s && true) side_b
      ∙ and_yes (same_side side Real)

  missed : (side : Side) → missing_count side ps ≡ 0 + (cond (same_side side Real) 1 0 + 0)
  missed side =
      sum_by-cons (λ q. cond (is_missing side q) 1 0) a (b ∷ [])
      ∙ ap (λ (t : Bool). cond t 1 0 + missing_count side (b ∷ [])) (given_a side)
      ∙ ap (λ (n : ℕ). 0 + n) (sum_by-cons (λ q. cond (is_missing side q) 1 0) b [])
      ∙ ap (λ (t : Bool). 0 + (cond t 1 0 + missing_count side [])) (missing_b side)

  two : has_two_missing ps ≡ false
  two =
      ap (λ (n : ℕ). nat_lt 1 n || nat_lt 1 (missing_count Balanced ps) || nat_lt 0 (missing_count Free ps)) (missed Real)
      ∙ ap (λ (n : ℕ). nat_lt 1 n || nat_lt 0 (missing_count Free ps)) (missed Balanced)
      ∙ ap (nat_lt 0) (missed Free)

  misses_real : misses Real ps ≡ true
  misses_real = ap (nat_lt 0) (missed Real)

  unassigned : has_assignment ps ≡ false
  unassigned =
      ap (λ (o : Option Amount). (is_none o && is_some a.wanted) || ((is_none b.amount && is_some b.wanted) || false)) amount
      ∙ ap (λ (w : Option Assertion). (is_none b.amount && is_some w) || false) wanted
      ∙ ap (λ (t : Bool). t || false) (and_no (is_none b.amount))

  costs : costs_fit ps ≡ true
  costs =
      ap (λ (o : Option Amount). amount_cost_fits o a.cost && (amount_cost_fits b.amount b.cost && true)) amount
      ∙ ap (λ (c : Option Cost). optional_cost_fits x c && (amount_cost_fits b.amount b.cost && true)) cost
      ∙ ap (λ (o : Option Amount). amount_cost_fits o b.cost && true) missing

  -- ---- what is left

  no_values : side_values Balanced ps ≡ []
  no_values =
      ap (λ (s : Side). cond (same_side Balanced s) (from_amount (λ (y : Amount). at_cost y a.cost ∷ []) a.amount) [] ++ (share_of Balanced b ++ [])) side_a
      ∙ ap (λ (s : Side). cond (same_side Balanced s) (from_amount (λ (y : Amount). at_cost y b.cost ∷ []) b.amount) [] ++ []) side_b

  none_left : left_over Balanced ps ≡ []
  none_left = ap (λ (vs : List Value). filter (λ (sum : Value). not (is_nothing_at (precision_of sum.0 ps) sum.1)) (sums_of vs)) no_values

  even : unbalanced_sums ps ≡ []
  even =
      ap (λ (t : Bool). cond (t || exchanges ps) [] (left_over Real ps) ++ cond (misses Balanced ps) [] (left_over Balanced ps)) misses_real
      ∙ ap (λ (vs : List Value). cond (misses Balanced ps) [] vs) none_left
      ∙ same_none (misses Balanced ps)

  told : cause_alone ps ≡ cond (turnover_fits (moved (solved ps))) None (Some cause.Range)
  told =
      cause_solved ps unassigned two costs
      ∙ ap (λ (vs : List Value). cond (turnover_fits (moved (solved ps))) (unbalanced_by vs) (Some cause.Range)) even

-- what is known of a pair
pub record OfPair (ps : List Posting) : Type 0 where
  pub costs : costs_fit ps ≡ true
  pub unassigned : has_assignment ps ≡ false
  pub told : cause_alone ps ≡ cond (turnover_fits (moved (solved ps))) None (Some cause.Range)

module _ (a b : Posting) (h : (gives a && takes b) ≡ true) where
  giving : gives a ≡ true
  giving = left_true (gives a) (takes b) h

  taking : takes b ≡ true
  taking = right_true (gives a) (takes b) h

  front : (same_side Real a.side && is_none a.cost) ≡ true
  front = left_true (same_side Real a.side && is_none a.cost) (is_given a.amount) giving

  pub given : is_given a.amount ≡ true
  given = right_true (same_side Real a.side && is_none a.cost) (is_given a.amount) giving

  behind : (same_side Real b.side && is_none b.amount) ≡ true
  behind = left_true (same_side Real b.side && is_none b.amount) (is_none b.wanted) taking

  side_first : a.side ≡ Real
  side_first = real_is a.side (left_true (same_side Real a.side) (is_none a.cost) front)

  side_second : b.side ≡ Real
  side_second = real_is b.side (left_true (same_side Real b.side) (is_none b.amount) behind)

  pub no_cost : a.cost ≡ None
  no_cost = none_is a.cost (right_true (same_side Real a.side) (is_none a.cost) front)

  no_amount : b.amount ≡ None
  no_amount = none_is b.amount (right_true (same_side Real b.side) (is_none b.amount) behind)

  no_claim : b.wanted ≡ None
  no_claim = none_is b.wanted (right_true (same_side Real b.side && is_none b.amount) (is_none b.wanted) taking)

  pub solved_by : (o : Option Amount) → a.amount ≡ o → is_given o ≡ true → solved (a ∷ b ∷ []) ≡ a ∷ with_amount b (opposite a.amount) ∷ []
  solved_by None e is = absurd (false≢true is)
  solved_by (Some x) e is = both a b x e no_amount side_first side_second no_cost no_claim is

  of_by : (o : Option Amount) → a.amount ≡ o → is_given o ≡ true → OfPair (a ∷ b ∷ [])
  of_by None e is = absurd (false≢true is)
  of_by (Some x) e is = record {
    costs = costs a b x e no_amount side_first side_second no_cost no_claim is;
    unassigned = unassigned a b x e no_amount side_first side_second no_cost no_claim is;
    told = told a b x e no_amount side_first side_second no_cost no_claim is;
  }

pub of_pair : (ps : List Posting) → is_pair ps ≡ true → OfPair ps
of_pair [] h = absurd (false≢true h)
of_pair (a ∷ []) h = absurd (false≢true h)
of_pair (a ∷ b ∷ []) h = of_by a b h a.amount refl (given a b h)
of_pair (a ∷ b ∷ c ∷ ps) h = absurd (false≢true h)

pub pair_length : (ps : List Posting) → is_pair ps ≡ true → length ps ≡ 2
pair_length [] h = absurd (false≢true h)
pair_length (a ∷ []) h = absurd (false≢true h)
pair_length (a ∷ b ∷ []) h = refl
pair_length (a ∷ b ∷ c ∷ ps) h = absurd (false≢true h)

-- two postings are one as both say
pub pair_at : (ps : List Posting) (p q : Posting) → length ps ≡ 2 → p ≡ get_or ps 0 p → q ≡ get_or ps 1 q → (gives p && takes q) ≡ is_pair ps
pair_at [] p q two ep eq = absurd (omega arith)
pair_at (a ∷ []) p q two ep eq = absurd (omega arith)
pair_at (a ∷ b ∷ []) p q two ep eq = ap (λ (z : Posting). gives z && takes q) ep ∙ ap (λ (z : Posting). gives a && takes z) eq
pair_at (a ∷ b ∷ c ∷ ps) p q two ep eq = absurd (omega arith)

pub unpaired : (ps : List Posting) → length ps ≢ 2 → is_pair ps ≡ false
unpaired [] h = refl
unpaired (a ∷ []) h = refl
unpaired (a ∷ b ∷ []) h = absurd (h refl)
unpaired (a ∷ b ∷ c ∷ ps) h = refl

-- a pair whose second posting has what was found is solved
pub filled_is : (ps : List Posting) (p q new : Posting) (found : Option Amount) → is_pair ps ≡ true → p ≡ get_or ps 0 p → q ≡ get_or ps 1 q → found ≡ opposite p.amount → new ≡ with_amount q found → set ps 1 new ≡ solved ps
filled_is [] p q new found h ep eq ef en = absurd (false≢true h)
filled_is (a ∷ []) p q new found h ep eq ef en = absurd (false≢true h)
filled_is (a ∷ b ∷ []) p q new found h ep eq ef en =
    ap (λ (z : Posting). a ∷ z ∷ []) (en ∙ ap (λ (z : Posting). with_amount z found) eq ∙ ap (with_amount b) (ef ∙ ap (λ (z : Posting). opposite z.amount) ep))
    ∙ sym (solved_by a b h a.amount refl (given a b h))
filled_is (a ∷ b ∷ c ∷ ps) p q new found h ep eq ef en = absurd (false≢true h)

pub pair_settled : (t : Txn) (s : Settled) → is_pair t.postings ≡ true → s.txn ≡ settled t → s.cause ≡ cond (turnover_fits (moved (solved t.postings))) None (Some cause.Range) → IsSettled t s.txn s.cause
pair_settled t s h is why =
    let known = of_pair t.postings h in
    solved_settled t s known.unassigned is (why ∙ sym known.told)
