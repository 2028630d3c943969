-- How many nodes are asked for the sums of other symbols.
use Rattle.std.proofs.Common.{◌≡◌, ℕ, ◌+◌, ◌*◌, ◌<◌, ◌≤◌, Bool, false, cond, not, List, [], ◌∷◌, ◌++◌, length, get_or, take, drop, refl, sym, ap, ◌∙◌, subst, arith}
use Rattle.std.specs.Str.{bytes_eq}
use Rattle.std.proofs.lemmas.List.{length-append, take_more, take-append-drop}
use Rattle.std.proofs.lemmas.List.Elements.{filter-append}
use Rattle.placed_sums.specs.Accounts.{nodes_beside, others_than}

pub beside_one : (symbol other : List ℕ) → bytes_eq other symbol ≡ false → nodes_beside symbol (other ∷ []) ≡ 22
beside_one symbol other h = ap (λ (b : Bool). 22 * length (cond (not b) (other ∷ []) [])) h

beside_both : (symbol : List ℕ) (xs ys : List (List ℕ)) → nodes_beside symbol (xs ++ ys) ≡ nodes_beside symbol xs + nodes_beside symbol ys
beside_both symbol xs ys =
    let parts = ap (λ (zs : List (List ℕ)). length zs) (filter-append (λ other. not (bytes_eq other symbol)) xs ys) ∙ length-append (others_than symbol xs) (others_than symbol ys) in
    omega (arith, parts)

-- one more symbol
pub beside_next : (symbol : List ℕ) (symbols : List (List ℕ)) (i : ℕ) (other : List ℕ) → i < length symbols → other ≡ get_or symbols i other → (before middle after : ℕ) → middle ≤ before + nodes_beside symbol (take i symbols) → after ≤ middle + nodes_beside symbol (other ∷ []) → after ≤ before + nodes_beside symbol (take (i + 1) symbols)
beside_next symbol symbols i other less is before middle after first second =
    let whole = ap (nodes_beside symbol) (take_more symbols i other less ∙ ap (λ (y : List ℕ). take i symbols ++ y ∷ []) (sym is)) ∙ beside_both symbol (take i symbols) (other ∷ []) in
    omega (arith, whole, first, second)

-- through one symbol they are some of all
pub beside_some : (symbol : List ℕ) (symbols : List (List ℕ)) (i before after : ℕ) → after ≤ before + nodes_beside symbol (take i symbols) → after ≤ before + nodes_beside symbol symbols
beside_some symbol symbols i before after h =
    let whole : nodes_beside symbol symbols ≡ nodes_beside symbol (take i symbols ++ drop i symbols) = ap (nodes_beside symbol) (sym (take-append-drop i symbols)) in
    let parts = beside_both symbol (take i symbols) (drop i symbols) in
    omega (arith, whole, parts, h)
