-- What is left of the sums matters only where no amount is missing.
use Rattle.std.proofs.Common.{◌≡◌, ℕ, ◌+◌, Bool, true, false, ◌&&◌, cond, List, [], ◌∷◌, Option, Some, None, refl, ap, ◌∙◌, ltb, is_none, is_some}
use Rattle.std.proofs.lemmas.Bool.{false≢true}
use Rattle.std.proofs.lemmas.List.Sums.{sum_by-cons}
use Rattle.book.specs.declared.amount.Amount.{Amount}
use Rattle.book.specs.declared.transaction.Posting.{Posting}
use Rattle.book.specs.declared.transaction.Side.{Side}
use Rattle.book.specs.declared.transaction.Side.TheVariants.{Real}
use Rattle.entry_balance.specs.Values.{Value}
use Rattle.entry_balance.specs.Entry.{same_side, are_opposite, are_plain, exchanges, is_missing, is_plain, left_over, missing_count, misses, recorded_between, recorded_cost}
use Rattle.entry_balance.proofs.Named.{left_true, right_true}

there : (s n : Bool) (a : Option Amount) → (is_some a && n) ≡ true → (s && is_none a) ≡ false
there true n None h = absurd (false≢true h)
there false n None h = refl
there true n (Some a) h = refl
there false n (Some a) h = refl

none_missed : (side : Side) (ps : List Posting) → are_plain ps ≡ true → missing_count side ps ≡ 0
none_missed side [] h = refl
none_missed side (p ∷ ps) h =
    sum_by-cons (λ q. cond (is_missing side q) 1 0) p ps
    ∙ ap (λ (b : Bool). cond {A = ℕ} b 1 0 + missing_count side ps) (there (same_side side p.side) (is_none p.cost) p.amount (left_true (is_plain p) (are_plain ps) h))
    ∙ ap (λ (n : ℕ). 0 + n) (none_missed side ps (right_true (is_plain p) (are_plain ps) h))

-- where each posting has an amount, none is missing
plain_misses : (side : Side) (ps : List Posting) → are_plain ps ≡ true → misses side ps ≡ false
plain_misses side ps h = ap (ltb 0) (none_missed side ps h)

abbrev LeftWhere : List Posting → Side → List Value → Type 0
LeftWhere ps side left = misses side ps ≡ false → left ≡ left_over side ps

pub exchange_is : (ps : List Posting) (left : List Value) → LeftWhere ps Real left → (are_plain ps && are_opposite left) ≡ exchanges ps
exchange_is ps left h = by (are_plain ps) refl
  where
    by : (t : Bool) → are_plain ps ≡ t → (t && are_opposite left) ≡ (t && are_opposite (left_over Real ps))
    by true e = ap are_opposite (h (plain_misses Real ps e))
    by false e = refl

exchanging : (ps : List Posting) → exchanges ps ≡ true → misses Real ps ≡ false
exchanging ps h = plain_misses Real ps (left_true (are_plain ps) (are_opposite (left_over Real ps)) h)

pub recorded_is : (ps : List Posting) (left : List Value) → LeftWhere ps Real left
    → cond (exchanges ps) (recorded_between left ps) None ≡ recorded_cost ps
recorded_is ps left h = by (exchanges ps) refl
  where
    by : (t : Bool) → exchanges ps ≡ t → cond t (recorded_between left ps) None ≡ cond t (recorded_between (left_over Real ps) ps) None
    by true e = ap (λ (l : List Value). recorded_between l ps) (h (exchanging ps e))
    by false e = refl
