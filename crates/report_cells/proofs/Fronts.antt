-- Names that share a front compare as what follows it.
use Rattle.std.proofs.Common.{◌≡◌, ℕ, ◌+◌, ◌*◌, List, [], ◌∷◌, ◌++◌, take, drop, refl, sym, ap, ◌∙◌, arith}
use Rattle.std.proofs.lemmas.List.{take-append-drop, drop-drop}
use Rattle.book.specs.Accounts.{account_cmp}
use Rattle.book.proofs.Accounts.{same_more}

fronts : (ws us vs : List ℕ) → account_cmp (ws ++ us) (ws ++ vs) ≡ account_cmp us vs
fronts [] us vs = refl
fronts (w ∷ ws) us vs = same_more (w ∷ (ws ++ us)) (w ∷ (ws ++ vs)) 0 (omega arith) (omega arith) refl ∙ fronts ws us vs

split : (xs : List ℕ) (at : ℕ) → drop at xs ≡ take 8 (drop at xs) ++ drop (at + 8) xs
split xs at = sym (take-append-drop 8 (drop at xs)) ∙ ap (λ (l : List ℕ). take 8 (drop at xs) ++ l) (drop-drop 8 at xs)

passed_on : (left right : List ℕ) (at : ℕ) → take 8 (drop at left) ≡ take 8 (drop at right) → account_cmp (drop at left) (drop at right) ≡ account_cmp (drop (at + 8) left) (drop (at + 8) right)
passed_on left right at same =
    let front : List ℕ = take 8 (drop at left) in
    let behind : drop at right ≡ front ++ drop (at + 8) right = split right at ∙ ap (λ (l : List ℕ). l ++ drop (at + 8) right) (sym same) in
    ap (λ (l : List ℕ). account_cmp l (drop at right)) (split left at)
    ∙ ap (account_cmp (front ++ drop (at + 8) left)) behind
    ∙ fronts front (drop (at + 8) left) (drop (at + 8) right)

-- eight bytes more
pub eight_more : (left right : List ℕ) (step at : ℕ) → at ≡ step * 8 → take 8 (drop at left) ≡ take 8 (drop at right)
    → account_cmp left right ≡ account_cmp (drop (step * 8) left) (drop (step * 8) right)
    → account_cmp left right ≡ account_cmp (drop ((step + 1) * 8) left) (drop ((step + 1) * 8) right)
eight_more left right step at is same so_far =
    let here : step * 8 ≡ at = sym is in
    let next : at + 8 ≡ (step + 1) * 8 = omega (arith, is) in
    so_far
    ∙ ap (λ (n : ℕ). account_cmp (drop n left) (drop n right)) here
    ∙ passed_on left right at same
    ∙ ap (λ (n : ℕ). account_cmp (drop n left) (drop n right)) next
