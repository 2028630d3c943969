-- Names of subaccounts.
use Rattle.std.proofs.Common.{◌≡◌, ℕ, Bool, true, false, ◌&&◌, List, [], ◌∷◌, ◌++◌, length, drop, refl, sym, ap, ◌∙◌}
use Rattle.std.specs.List.{starts_with}

and_both : (a b c : Bool) → (a && (b && c)) ≡ ((a && b) && c)
and_both true b c = refl
and_both false b c = refl

-- a name that begins with two texts begins with the first one, and goes on with the second
pub begins_both : (eq : ℕ → ℕ → Bool) (first second name : List ℕ) → starts_with eq name (first ++ second) ≡ (starts_with eq name first && starts_with eq (drop (length first) name) second)
begins_both eq [] second name = refl
begins_both eq (a ∷ first) second [] = refl
begins_both eq (a ∷ first) second (n ∷ name) =
    ap (λ (b : Bool). eq a n && b) (begins_both eq first second name) ∙ and_both (eq a n) (starts_with eq name first) (starts_with eq (drop (length first) name) second)

pub not_begun : (eq : ℕ → ℕ → Bool) (first second name : List ℕ) → starts_with eq name first ≡ false → false ≡ starts_with eq name (first ++ second)
not_begun eq first second name h = sym (begins_both eq first second name ∙ ap (λ (b : Bool). b && starts_with eq (drop (length first) name) second) h)

pub begun : (eq : ℕ → ℕ → Bool) (first second name : List ℕ) (r : Bool) → starts_with eq name first ≡ true → r ≡ starts_with eq (drop (length first) name) second → r ≡ starts_with eq name (first ++ second)
begun eq first second name r h is = is ∙ sym (begins_both eq first second name ∙ ap (λ (b : Bool). b && starts_with eq (drop (length first) name) second) h)
