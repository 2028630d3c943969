-- What the history of the total says.
use Rattle.std.proofs.Common.{◌≡◌, ℕ, ◌+◌, ◌%◌, ◌^◌, List, [], ◌∷◌, ◌++◌, Some, map, refl, ap, ap₂, sym, subst, ◌∙◌}
use Rattle.std.specs.Prelude.{All}
use Rattle.std.proofs.lemmas.List.Elements.{All-pop}
use Rattle.turn_lock.specs.History.{Leads, made_by}
use Rattle.turn_lock.specs.declared.known.Entered.{Entered}
use Rattle.turn_lock.specs.declared.known.Member.{Member}
use Rattle.turn_client.specs.declared.count.Added.{Added}
use Rattle.turn_client.specs.Sums.{AddsUp, IsOneThread, amount_of, by, running, total_after, amounts}

-- a legal history has the totals of one thread
pub one_thread : (s t : ℕ) (log : List (Entered Added)) → Leads AddsUp s log t → IsOneThread s log t
one_thread s t [] is = (refl, sym is)
one_thread s t (x ∷ xs) is =
    let m : ℕ = is.0 in
    let n : ℕ = (s + x.entry.amount.value) % 2 ^ 64 in
    let at : m ≡ n = is.1.0 in
    let rest = one_thread m t xs is.2 in
    (ap₂ (λ (y : ℕ) (ys : List ℕ). y ∷ ys) (is.1.1 ∙ at) (rest.0 ∙ ap (λ (k : ℕ). running k (amounts xs)) at), rest.1 ∙ ap (λ (k : ℕ). total_after k (amounts xs)) at)

abbrev pub Made : List (Entered Added) → Member Added → Type 0
Made h m = made_by m.number h ≡ m.mine

-- what each of the last two passes that were joined made, and what the others did
pub last_two : (h : List (Entered Added)) (joined before first : List (Member Added)) (a b : Member Added) → All (Made h) joined → joined ≡ first ++ b ∷ [] → first ≡ before ++ a ∷ [] → Made h a × Made h b × All (Made h) before
last_two h joined before first a b of is is' =
    let late = All-pop (Made h) joined first (Some b) is of in
    let early = All-pop (Made h) first before (Some a) is' late.0 in
    (early.1, late.1, early.0)

-- the amounts under a number
pub by_is : (n k : ℕ) (h : List (Entered Added)) (mine : List Added) (xs : List ℕ) → made_by n h ≡ mine → n ≡ k → map amount_of mine ≡ xs → by k h ≡ xs
by_is n k h mine xs made is amounts_are = subst (λ (j : ℕ). by j h ≡ xs) is (ap (map amount_of) made ∙ amounts_are)
