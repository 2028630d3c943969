use Rattle.std.proofs.Common.{ℕ, cond, List, ◌∷◌, map, Option, Some, None, Ok, refl, sym, ap, subst, ◌∙◌}
use Rattle.std.specs.Prelude.{unwrap_or}
use Rattle.prices.specs.Answers.{Answer, answer_by}
use Rattle.prices.specs.Chains.{Pricing, priced_on, declared, either, IsRate}
use Rattle.prices.specs.Search.{steps_of, found_within, chosen, worth}
use Rattle.prices.specs.Step.{Step}
use Rattle.prices.proofs.Told.{among, untold, rate_is}
use Rattle.prices.proofs.table.make_table.Goals as goal

pub returns : goal.returns
returns c = λ from.
    let target : List ℕ = c.args.target.now in
    let price : Pricing = priced_on c.args.sorted.now c.args.day.0 in
    let by_declared : List Step = steps_of (declared price) c.args.pairs.now in
    let by_either : List Step = steps_of (either price) c.args.pairs.now in
    let first = c.in_ok-by_declared.ensures from ∙ ap (λ (steps : List Step). found_within steps target 16 from) (c.deref.ensures.value ∙ c.in_ok-declared.ensures) in
    let second = c.in_ok-by_either.ensures from ∙ ap (λ (steps : List Step). found_within steps target 16 from) (c.deref-2.ensures.value ∙ c.in_ok-either.ensures) in
    let answer : List ℕ → Answer = answer_by c.in_ok-by_declared.by_declared.entries c.in_ok-by_either.by_either.entries in
    let is =
    ap (λ (o : Option Answer). unwrap_or o (Ok None)) (c.in_ok-answers.ensures from)
    ∙ ap (λ (steps : List Step). unwrap_or (cond (among (target ∷ map (λ step. step.from) steps) from) (Some (answer from)) None) (Ok None)) (c.deref-3.ensures.value ∙ c.in_ok-either.ensures)
    ∙ (λ i. unwrap_or (cond (among (target ∷ map (λ step. step.from) by_either) from) (Some (worth (chosen (first i) (second i)))) None) (Ok None))
    ∙ untold by_either target (found_within by_declared target 16 from) from _ refl in
    subst (IsRate price target from) (sym is) (rate_is c.args.sorted.now c.args.pairs.now target c.args.day.0 c.requires.pairs_ordered c.requires.both from)
