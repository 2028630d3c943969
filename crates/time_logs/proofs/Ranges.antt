-- Transactions of one day after another.
use Rattle.std.proofs.Common.{◌≡◌, ℕ, ◌+◌, ◌-◌, ◌≤◌, List, [], ◌∷◌, ◌++◌, map, sym, ap, ◌∙◌, arith}
use Rattle.std.specs.List.{range_with_len}
use Rattle.std.proofs.lemmas.List.{append_assoc}
use Rattle.std.proofs.lemmas.List.FromFn.{map-range_with_len_more}

-- one more, behind those of the days before
pub day_more : {X : Type 0} (f : ℕ → X) (old now next : List X) (first day : ℕ) → first ≤ day → now ≡ old ++ map f (range_with_len first (day - first)) → next ≡ now ++ f day ∷ []
    → next ≡ old ++ map f (range_with_len first (day + 1 - first))
day_more {X} f old now next first day past so_far pushed =
    let count : day + 1 - first ≡ day - first + 1 = omega arith in
    let at : first + (day - first) ≡ day = omega arith in
    pushed ∙ ap (λ (xs : List X). xs ++ f day ∷ []) so_far
    ∙ append_assoc old (map f (range_with_len first (day - first))) (f day ∷ [])
    ∙ ap (λ (xs : List X). old ++ xs) (sym (map-range_with_len_more f first (day - first) day at))
    ∙ ap (λ (n : ℕ). old ++ map f (range_with_len first n)) (sym count)
