-- A side that no posting is of.
use Rattle.std.proofs.Common.{◌≡◌, ℕ, ◌+◌, Bool, true, false, not, ◌&&◌, cond, List, [], ◌∷◌, ◌++◌, refl, sym, ap, ◌∙◌, ltb, filter, is_none}
use Rattle.std.specs.List.{list_all}
use Rattle.std.proofs.lemmas.Bool.{false≢true}
use Rattle.std.proofs.lemmas.List.Sums.{sum_by-cons}
use Rattle.book.specs.declared.transaction.Posting.{Posting}
use Rattle.book.specs.declared.transaction.Side.{Side}
use Rattle.entry_balance.specs.Values.{Value, at_cost}
use Rattle.entry_balance.specs.Tally.{named, sums_of}
use Rattle.entry_balance.specs.Entry.{same_side, from_amount, side_values, left_over, precision_of, is_nothing_at, is_missing, missing_count, misses}
use Rattle.entry_balance.proofs.Named.{left_true, right_true}

abbrev Lacks : Side → List Posting → Type 0
Lacks side ps = list_all (λ p. not (same_side side p.side)) ps ≡ true

not_true : (b : Bool) → not b ≡ true → b ≡ false
not_true true h = absurd (false≢true h)
not_true false h = refl

here : (side : Side) (p : Posting) (ps : List Posting) → Lacks side (p ∷ ps) → same_side side p.side ≡ false
here side p ps h = not_true _ (left_true (not (same_side side p.side)) (list_all (λ q. not (same_side side q.side)) ps) h)

rest : (side : Side) (p : Posting) (ps : List Posting) → Lacks side (p ∷ ps) → Lacks side ps
rest side p ps h = right_true (not (same_side side p.side)) (list_all (λ q. not (same_side side q.side)) ps) h

no_values : (side : Side) (ps : List Posting) → Lacks side ps → side_values side ps ≡ []
no_values side [] h = refl
no_values side (p ∷ ps) h =
    ap (λ (b : Bool). cond {A = List Value} b (from_amount (λ a. at_cost a p.cost ∷ []) p.amount) [] ++ side_values side ps) (here side p ps h) ∙ no_values side ps (rest side p ps h)

none_counted : (side : Side) (ps : List Posting) → Lacks side ps → missing_count side ps ≡ 0
none_counted side [] h = refl
none_counted side (p ∷ ps) h =
    sum_by-cons (λ q. cond (is_missing side q) 1 0) p ps
    ∙ ap (λ (b : Bool). cond {A = ℕ} (b && is_none p.amount) 1 0 + missing_count side ps) (here side p ps h)
    ∙ ap (λ (n : ℕ). 0 + n) (none_counted side ps (rest side p ps h))

pub no_sums : (side : Side) (ps : List Posting) → Lacks side ps → named [] ≡ left_over side ps
no_sums side ps h = ap (λ (vs : List Value). filter (λ sum. not (is_nothing_at (precision_of sum.0 ps) sum.1)) (sums_of vs)) (sym (no_values side ps h))

pub none_missing : (side : Side) (ps : List Posting) → Lacks side ps → false ≡ misses side ps
none_missing side ps h = ap (ltb 0) (sym (none_counted side ps h))
