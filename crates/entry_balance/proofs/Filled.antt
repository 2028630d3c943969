-- Filling postings one after another solves them.
use Rattle.std.proofs.Common.{◌≡◌, ℕ, ◌+◌, ◌<◌, Bool, true, false, ◌&&◌, cond, List, [], ◌∷◌, ◌++◌, map, Option, Some, None, is_none, refl, sym, ap, ◌∙◌, arith, ltb}
use Rattle.std.specs.List.{flat_map}
use Rattle.std.proofs.lemmas.Bool.{false≢true, ltb-true}
use Rattle.std.proofs.lemmas.Bool.Decides.{Decides-ltb}
use Rattle.std.proofs.lemmas.List.Sums.{sum_by-cons}
use Rattle.book.specs.declared.amount.Amount.{Amount}
use Rattle.book.specs.declared.transaction.Posting.{Posting}
use Rattle.book.specs.declared.transaction.Side.{Side}
use Rattle.book.specs.declared.transaction.Side.TheVariants.{Real, Balanced, Free}
use Rattle.entry_balance.specs.Values.{Value}
use Rattle.entry_balance.specs.Entry.{is_missing, missing_count, misses, found_values, found_posting, costed_posting, recorded_cost, solved_posting, solved, same_side}
use Rattle.entry_balance.specs.Fill.{found_for, filled_posting}

same_itself : (side : Side) → same_side side side ≡ true
same_itself Real = refl
same_itself Balanced = refl
same_itself Free = refl

missing_here : (p : Posting) → p.amount ≡ None → is_missing p.side p ≡ true
missing_here p none = ap (λ (o : Option Amount). same_side p.side p.side && is_none o) none ∙ ap (λ b. b && true) (same_itself p.side)

-- the counts of a rest are within those of all
abbrev Within : List Posting → List Posting → Type 0
Within qs ps = (side : Side) → misses side qs ≡ true → misses side ps ≡ true

above_none : (n : ℕ) → 0 < n → ltb 0 n ≡ true
above_none n h = (Decides-ltb 0 n).1 h

count-more : (side : Side) (p : Posting) (qs : List Posting) → missing_count side (p ∷ qs) ≡ cond (is_missing side p) 1 0 + missing_count side qs
count-more side p qs = sum_by-cons (λ q. cond (is_missing side q) 1 0) p qs

misses-here : (side : Side) (p : Posting) (qs : List Posting) → is_missing side p ≡ true → misses side (p ∷ qs) ≡ true
misses-here side p qs h =
    ap (ltb 0) (count-more side p qs ∙ ap (λ (b : Bool). cond b 1 0 + missing_count side qs) h) ∙ above_none (1 + missing_count side qs) (omega arith)

misses-rest : (side : Side) (p : Posting) (qs : List Posting) → misses side qs ≡ true → misses side (p ∷ qs) ≡ true
misses-rest side p qs h = ap (ltb 0) (count-more side p qs) ∙ by (is_missing side p)
  where
    by : (b : Bool) → ltb 0 (cond b 1 0 + missing_count side qs) ≡ true
    by b = above_none _ (omega (arith, ltb-true 0 (missing_count side qs) h))

module _ (ps : List Posting) (real balanced : List Value) (cost : Option (List ℕ × Value))
    (of_real : misses Real ps ≡ true → real ≡ found_values Real ps)
    (of_balanced : misses Balanced ps ≡ true → balanced ≡ found_values Balanced ps)
    (of_free : misses Free ps ≡ false)
    (of_cost : cost ≡ recorded_cost ps) where
  found_is : (side : Side) → misses side ps ≡ true → found_for real balanced side ≡ found_values side ps
  found_is Real h = of_real h
  found_is Balanced h = of_balanced h
  found_is Free h = absurd (false≢true (sym of_free ∙ h))

  one_is : (p : Posting) (amount : Option Amount) → (amount ≡ None → misses p.side ps ≡ true) → filled_posting real balanced cost p amount ≡ solved_posting ps p amount
  one_is p None h = ap (map (found_posting p)) (found_is p.side (h refl))
  one_is p (Some a) h = ap (λ (c : Option (List ℕ × Value)). costed_posting c p ∷ []) of_cost

  all_are : (qs : List Posting) → Within qs ps → flat_map (λ p. filled_posting real balanced cost p p.amount) qs ≡ flat_map (λ p. solved_posting ps p p.amount) qs
  all_are [] within = refl
  all_are (q ∷ qs) within =
      ap (λ (xs : List Posting). xs ++ flat_map (λ p. filled_posting real balanced cost p p.amount) qs) (one_is q q.amount (λ none. within q.side (misses-here q.side q qs (missing_here q none))))
      ∙ ap (λ (xs : List Posting). solved_posting ps q q.amount ++ xs) (all_are qs (λ side h. within side (misses-rest side q qs h)))

  pub filled-is : flat_map (λ p. filled_posting real balanced cost p p.amount) ps ≡ solved ps
  filled-is = all_are ps (λ side h. h)
