use Rattle.std.proofs.Common.{ℕ, List, [], ◌∷◌, ◌++◌, refl, sym, ap, subst, ◌∙◌, codes}
use Rattle.std.proofs.lemmas.Bool.{false≢true}
use Rattle.placed_sums.specs.Accounts.{HasSymbols}
use Rattle.walked_edits.proofs.tests.symbols_of_all.Goals as goal

two_symbols : HasSymbols (codes "EUR" ∷ codes "USD" ∷ []) []
two_symbols = record { ordered = refl; all = λ other named. absurd (false≢true named) }

pub returns : goal.returns
returns c =
    subst (λ (symbols : List (List ℕ)). HasSymbols symbols [])
    (sym (c.in_ok-push-2.ensures.items
    ∙ ap (λ (symbols : List (List ℕ)). symbols ++ c.in_ok-dollar.dollar ∷ []) (c.in_ok-push.ensures.items ∙ ap (λ (symbols : List (List ℕ)). symbols ++ c.in_ok-euro.euro ∷ []) c.new-symbols.ensures.items)
    ∙ (λ i. c.in_ok-euro.ensures i ∷ c.in_ok-dollar.ensures i ∷ [])))
    two_symbols
