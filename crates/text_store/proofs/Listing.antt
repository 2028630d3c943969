-- Import states one after the other.
use Rattle.std.proofs.Common.{◌≡◌, ℕ, zero, suc, ◌+◌, ◌<◌, List, [], ◌∷◌, ◌++◌, length, take, drop, get_or, sym, ◌∙◌, ap, subst, arith, append_assoc}
use Rattle.std.specs.List.{flat_map}
use Rattle.std.proofs.lemmas.List.{drop_more}
use Rattle.hl_base.specs.declared.change.Latest.{Latest}
use Rattle.text_store.specs.Changes.{mark_payload, IsState, AreStates}
use Rattle.text_store.specs.Files.{HaveShortNames}

pub next_of : (xs : List Latest) (i : ℕ) (x : Latest) → i < length xs → x ≡ get_or xs i x → drop i xs ≡ x ∷ drop (i + 1) xs
next_of xs i x less is = drop_more xs i x less ∙ ap (λ (y : Latest). y ∷ drop (i + 1) xs) (sym is)

pub flat_step : (out : List ℕ) (xs : List Latest) (i : ℕ) (x : Latest) → i < length xs → x ≡ get_or xs i x
    → (out ++ mark_payload x) ++ flat_map mark_payload (drop (i + 1) xs) ≡ out ++ flat_map mark_payload (drop i xs)
flat_step out xs i x less is =
    append_assoc out (mark_payload x) (flat_map mark_payload (drop (i + 1) xs)) ∙ ap (λ (l : List Latest). out ++ flat_map mark_payload l) (sym (next_of xs i x less is))

states_suc : (xs : List Latest) (i : ℕ) (x : Latest) → i < length xs → x ≡ get_or xs i x → AreStates (take i xs) → IsState x → AreStates (take (suc i) xs)
states_suc [] i x less is before state = absurd (omega arith)
states_suc (y ∷ xs) zero x less is before state = (subst (λ (s : Latest). IsState s) is state, tt)
states_suc (y ∷ xs) (suc i) x less is before state = (before.0, states_suc xs i x (omega arith) is before.1 state)

pub states_step : (xs : List Latest) (i : ℕ) (x : Latest) → i < length xs → x ≡ get_or xs i x → AreStates (take i xs) → IsState x → AreStates (take (i + 1) xs)
states_step xs i x less is before state = let e : suc i ≡ i + 1 = omega arith in subst (λ (n : ℕ). AreStates (take n xs)) e (states_suc xs i x less is before state)

pub short_step : (xs : List Latest) (i : ℕ) (x : Latest) → i < length xs → x ≡ get_or xs i x → HaveShortNames (drop i xs) → HaveShortNames (x ∷ drop (i + 1) xs)
short_step xs i x less is short = subst (λ (l : List Latest). HaveShortNames l) (next_of xs i x less is) short
