-- What balancing moves covers what it sums.
use Rattle.std.proofs.Common.{◌≡◌, ℕ, ◌≤◌, Bool, true, false, ◌&&◌, cond, List, [], ◌∷◌, ◌++◌, map, Option, Some, None, is_none, unsigned_abs, refl, sym, ap, subst, arith}
use Rattle.std.specs.List.{flat_map, fold}
use Rattle.std.proofs.lemmas.Bool.Decides.{Decides-ltb}
use Rattle.std.proofs.lemmas.Grind.{flat_map-append}
use Rattle.std.proofs.lemmas.List.{append-nil}
use Rattle.hl_num.specs.Decimal.{Decimal}
use Rattle.book.specs.Mixed.{plus}
use Rattle.book.specs.declared.amount.Amount.{Amount}
use Rattle.book.specs.declared.amount.Cost.{Cost}
use Rattle.book.specs.declared.amount.Cost.TheVariants.{Total}
use Rattle.book.specs.declared.transaction.Posting.{Posting}
use Rattle.book.specs.declared.transaction.Side.{Side}
use Rattle.entry_balance.specs.Values.{Value, value_of, absolute, cost_of, cost_values, at_cost}
use Rattle.entry_balance.specs.Tally.{numbers_of, no_sum, is_within, turnover_fits}
use Rattle.entry_balance.specs.Entry.{from_amount, share_of, side_values, same_side, is_real_of, plain_amount, found_posting, found_values, costed_posting, recorded_cost, solved_posting, solved, moved_by, moved, amount_cost_fits, costs_fit}
use Rattle.entry_balance.proofs.Named.{both_true, left_true, right_true}
use Rattle.entry_balance.proofs.Turnover.{AllAtMost, magnitude, exact-abs, magnitude-more, magnitude-append, at_most-left, at_most-right, sum_places-all, places_within, numbers-append, total_within, fits-from_each}

-- no more than others, at any number of places
pub record IsPart (xs ys : List Decimal) : Type 0 where
  pub less : (q : ℕ) → magnitude q xs ≤ magnitude q ys
  pub few : (q : ℕ) → AllAtMost q ys → AllAtMost q xs

pub at_most-append : (q : ℕ) (xs ys : List Decimal) → AllAtMost q xs → AllAtMost q ys → AllAtMost q (xs ++ ys)
at_most-append q [] ys h k = k
at_most-append q (x ∷ xs) ys h k = (h.0, at_most-append q xs ys h.1 k)

part_none : (ys : List Decimal) → IsPart [] ys
part_none ys = record { less = λ q. omega arith; few = λ q h. tt }

part_same : (xs : List Decimal) → IsPart xs xs
part_same xs = record { less = λ q. omega arith; few = λ q h. h }

part_left : (xs ys : List Decimal) → IsPart xs (xs ++ ys)
part_left xs ys = record { less = λ q. omega (arith, magnitude-append q xs ys); few = λ q h. at_most-left q xs ys h }

part_right : (xs ys : List Decimal) → IsPart ys (xs ++ ys)
part_right xs ys = record { less = λ q. omega (arith, magnitude-append q xs ys); few = λ q h. at_most-right q xs ys h }

part_both : (xs ys xs' ys' : List Decimal) → IsPart xs ys → IsPart xs' ys' → IsPart (xs ++ xs') (ys ++ ys')
part_both xs ys xs' ys' h k = record {
  less = λ q. omega (arith, magnitude-append q xs xs', magnitude-append q ys ys', h.less q, k.less q);
  few = λ q all. at_most-append q xs xs' (h.few q (at_most-left q ys ys' all)) (k.few q (at_most-right q ys ys' all));
}

-- a part of what stays within the bound does too
pub part_within : (xs ys : List Decimal) → IsPart xs ys → is_within (fold plus no_sum (map absolute ys)) ≡ true → is_within (fold plus no_sum (map absolute xs)) ≡ true
part_within xs ys part h =
    let p = (fold plus no_sum xs).places in
    let q = (fold plus no_sum ys).places in
    let few = part.few q (sum_places-all no_sum ys) in
    let small = (Decides-ltb _ _).0 h in
    (Decides-ltb _ _).1 (omega (arith, ap unsigned_abs (exact-abs xs), ap unsigned_abs (exact-abs ys), small, part.less q, magnitude-more p q xs (places_within no_sum q xs (omega arith) few)))

-- the same of values, in each symbol
pub record Covers (ys xs : List Value) : Type 0 where
  pub each : (s : List ℕ) → IsPart (numbers_of s xs) (numbers_of s ys)

pub covered-fits : (ys xs : List Value) → Covers ys xs → turnover_fits ys ≡ true → turnover_fits xs ≡ true
covered-fits ys xs covers h = fits-from_each xs (λ s. part_within (numbers_of s xs) (numbers_of s ys) (covers.each s) (total_within s ys h))

pub covers_none : (ys : List Value) → Covers ys []
covers_none ys = record { each = λ s. part_none (numbers_of s ys) }

pub covers_same : (ys : List Value) → Covers ys ys
covers_same ys = record { each = λ s. part_same (numbers_of s ys) }

pub covers_left : (xs ys : List Value) → Covers (xs ++ ys) xs
covers_left xs ys = record { each = λ s. subst (λ ds. IsPart (numbers_of s xs) ds) (sym (numbers-append s xs ys)) (part_left (numbers_of s xs) (numbers_of s ys)) }

pub covers_right : (xs ys : List Value) → Covers (xs ++ ys) ys
covers_right xs ys = record { each = λ s. subst (λ ds. IsPart (numbers_of s ys) ds) (sym (numbers-append s xs ys)) (part_right (numbers_of s xs) (numbers_of s ys)) }

pub covers_both : (xs ys xs' ys' : List Value) → Covers ys xs → Covers ys' xs' → Covers (ys ++ ys') (xs ++ xs')
covers_both xs ys xs' ys' h k = record {
  each = λ s. subst (λ ds. IsPart ds (numbers_of s (ys ++ ys'))) (sym (numbers-append s xs xs'))
      (subst (λ ds. IsPart (numbers_of s xs ++ numbers_of s xs') ds) (sym (numbers-append s ys ys'))
      (part_both (numbers_of s xs) (numbers_of s ys) (numbers_of s xs') (numbers_of s ys') (h.each s) (k.each s)));
}

-- ---- of postings

covers_cost : (a : Amount) (cost : Option Cost) → Covers (value_of a ∷ cost_values a cost) (at_cost a cost ∷ [])
covers_cost a None = covers_same (value_of a ∷ [])
covers_cost a (Some cost) = covers_right (value_of a ∷ []) (cost_of a.value cost ∷ [])

covers_amount : (p : Posting) (amount : Option Amount) → Covers (from_amount (λ a. value_of a ∷ cost_values a p.cost) amount) (from_amount (λ a. at_cost a p.cost ∷ []) amount)
covers_amount p None = covers_none []
covers_amount p (Some a) = covers_cost a p.cost

-- a recorded cost only adds
covers_costed : (cost : Option (List ℕ × Value)) (p : Posting) → Covers (moved_by (costed_posting cost p)) (from_amount (λ a. at_cost a p.cost ∷ []) p.amount)
covers_costed None p = covers_amount p p.amount
covers_costed (Some cost) p = by (is_real_of cost.0 p && is_none p.cost) refl
  where
    plain : (amount : Option Amount) (old : Option Cost) (new : Cost) → is_none old ≡ true → Covers (from_amount (λ a. value_of a ∷ cost_values a (Some new)) amount) (from_amount (λ a. at_cost a old ∷ []) amount)
    plain None old new h = covers_none []
    plain (Some a) None new h = covers_left (value_of a ∷ []) (cost_of a.value new ∷ [])
    plain (Some a) (Some old) new h = absurd (let never : ⊥ = cc in never)

    by : (b : Bool) → (is_real_of cost.0 p && is_none p.cost) ≡ b → Covers (moved_by (cond b (record p { cost = Some (Total (plain_amount cost.1)); costed = true }) p)) (from_amount (λ a. at_cost a p.cost ∷ []) p.amount)
    by true e = plain p.amount p.cost (Total (plain_amount cost.1)) (right_true (is_real_of cost.0 p) (is_none p.cost) e)
    by false e = covers_amount p p.amount

module _ (ps : List Posting) where
  covers_solved : (p : Posting) (amount : Option Amount) → p.amount ≡ amount → Covers (moved (solved_posting ps p amount)) (from_amount (λ a. at_cost a p.cost ∷ []) amount)
  covers_solved p None e = covers_none _
  covers_solved p (Some a) e =
      subst (λ (o : Option Amount). Covers (moved_by (costed_posting (recorded_cost ps) p) ++ []) (from_amount (λ a. at_cost a p.cost ∷ []) o)) e
      (subst (λ (vs : List Value). Covers vs (from_amount (λ a. at_cost a p.cost ∷ []) p.amount)) (sym (append-nil (moved_by (costed_posting (recorded_cost ps) p)))) (covers_costed (recorded_cost ps) p))

  covers_share : (side : Side) (p : Posting) → Covers (moved (solved_posting ps p p.amount)) (share_of side p)
  covers_share side p = by (same_side side p.side)
    where
      by : (b : Bool) → Covers (moved (solved_posting ps p p.amount)) (cond b (from_amount (λ a. at_cost a p.cost ∷ []) p.amount) [])
      by true = covers_solved p p.amount refl
      by false = covers_none _

  covers_side : (side : Side) (qs : List Posting) → Covers (moved (flat_map (λ p. solved_posting ps p p.amount) qs)) (side_values side qs)
  covers_side side [] = covers_none []
  covers_side side (q ∷ qs) =
      subst (λ (vs : List Value). Covers vs (share_of side q ++ side_values side qs)) (sym (flat_map-append moved_by (solved_posting ps q q.amount) (flat_map (λ p. solved_posting ps p p.amount) qs)))
      (covers_both (share_of side q) (moved (solved_posting ps q q.amount)) (side_values side qs) (moved (flat_map (λ p. solved_posting ps p p.amount) qs)) (covers_share side q) (covers_side side qs))

  -- a side's sums are in range where all that is moved fits
  pub side_fits : (side : Side) → turnover_fits (moved (solved ps)) ≡ true → turnover_fits (side_values side ps) ≡ true
  side_fits side h = covered-fits (moved (solved ps)) (side_values side ps) (covers_side side ps) h

  -- ---- the costs of solved postings can be told

  found_fits : (p : Posting) (vs : List Value) → costs_fit (map (found_posting p) vs) ≡ true
  found_fits p [] = refl
  found_fits p (v ∷ vs) = found_fits p vs

  total_fits : (amount : Option Amount) (total : Amount) → amount_cost_fits amount (Some (Total total)) ≡ true
  total_fits None total = refl
  total_fits (Some a) total = refl

  costed_fits : (cost : Option (List ℕ × Value)) (p : Posting) → amount_cost_fits p.amount p.cost ≡ true → amount_cost_fits (costed_posting cost p).amount (costed_posting cost p).cost ≡ true
  costed_fits None p h = h
  costed_fits (Some cost) p h = by (is_real_of cost.0 p && is_none p.cost)
    where
      by : (b : Bool) → let q = cond b (record p { cost = Some (Total (plain_amount cost.1)); costed = true }) p in amount_cost_fits q.amount q.cost ≡ true
      by true = total_fits p.amount (plain_amount cost.1)
      by false = h

  one_fits : (p : Posting) (amount : Option Amount) → amount_cost_fits p.amount p.cost ≡ true → costs_fit (solved_posting ps p amount) ≡ true
  one_fits p None h = found_fits p (found_values p.side ps)
  one_fits p (Some a) h = both_true _ _ (costed_fits (recorded_cost ps) p h) refl

  costs_fit-append : (xs ys : List Posting) → costs_fit xs ≡ true → costs_fit ys ≡ true → costs_fit (xs ++ ys) ≡ true
  costs_fit-append [] ys h k = k
  costs_fit-append (x ∷ xs) ys h k =
      both_true _ _ (left_true (amount_cost_fits x.amount x.cost) (costs_fit xs) h) (costs_fit-append xs ys (right_true (amount_cost_fits x.amount x.cost) (costs_fit xs) h) k)

  each_fits : (qs : List Posting) → costs_fit qs ≡ true → costs_fit (flat_map (λ p. solved_posting ps p p.amount) qs) ≡ true
  each_fits [] h = refl
  each_fits (q ∷ qs) h =
      costs_fit-append (solved_posting ps q q.amount) _ (one_fits q q.amount (left_true (amount_cost_fits q.amount q.cost) (costs_fit qs) h)) (each_fits qs (right_true (amount_cost_fits q.amount q.cost) (costs_fit qs) h))

  pub solved_costs_fit : costs_fit ps ≡ true → costs_fit (solved ps) ≡ true
  solved_costs_fit h = each_fits ps h
