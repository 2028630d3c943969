-- What is told of bytes that go over in parts.
use Rattle.std.proofs.Common.{◌≡◌, ℕ, ◌+◌, ◌≤◌, List, ◌++◌, length, take, drop, Option, Some, None, IfSome, ap, sym, ◌∙◌, subst, append_assoc, take-add, take-append-drop}

-- one more part was written after those before
pub written_more : (a b c : Option (List ℕ)) (text rest : List ℕ) (i n : ℕ)
    → rest ≡ drop i text
    → IfSome a (λ before. b ≡ Some (before ++ take i text))
    → IfSome b (λ bytes. c ≡ Some (bytes ++ take n rest))
    → IfSome a (λ before. c ≡ Some (before ++ take (i + n) text))
written_more None b c text rest i n e p q = tt
written_more (Some x) b c text rest i n e p q =
    let r : c ≡ Some ((x ++ take i text) ++ take n rest) =
    (let F : Option (List ℕ) → Type 0 = λ o. IfSome o (λ bytes. c ≡ Some (bytes ++ take n rest)) in subst F p q) in
    r ∙ ap (λ d. Some ((x ++ take i text) ++ take n d)) e
    ∙ ap Some (append_assoc x (take i text) (take n (drop i text)) ∙ ap (λ t. x ++ t) (sym (take-add i n text)))

-- What is left of some bytes is what was there without those that were read.
pub left_more : (a b c : Option (List ℕ)) (bytes room : List ℕ) (n : ℕ)
    → IfSome a (λ all. (rest : List ℕ) × (b ≡ Some rest) × (all ≡ bytes ++ rest))
    → IfSome b (λ left. (n ≤ length left) × (take n room ≡ take n left) × (c ≡ Some (drop n left)))
    → IfSome a (λ all. (rest : List ℕ) × (c ≡ Some rest) × (all ≡ (bytes ++ take n room) ++ rest))
left_more None b c bytes room n p q = tt
left_more (Some all) b c bytes room n p q =
    let r : (n ≤ length p.0) × (take n room ≡ take n p.0) × (c ≡ Some (drop n p.0)) =
    (let F : Option (List ℕ) → Type 0 = λ o. IfSome o (λ left. (n ≤ length left) × (take n room ≡ take n left) × (c ≡ Some (drop n left))) in subst F p.1 q) in (
      drop n p.0,
      r.2,
      p.2 ∙ ap (λ t. bytes ++ t) (sym (take-append-drop n p.0))
          ∙ sym (append_assoc bytes (take n p.0) (drop n p.0))
          ∙ ap (λ t. (bytes ++ t) ++ drop n p.0) (sym r.1),
    )
