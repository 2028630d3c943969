use Rattle.std.proofs.Common.{◌≡◌, ◌+◌, ◌<◌, ℕ, List, [], ◌∷◌, ◌++◌, length, map, take, sym, ap, subst, ◌∙◌, arith}
use Rattle.std.specs.Prelude.{String, string_bytes}
use Rattle.std.specs.Global.{Global}
use Rattle.std.specs.Ordering.{nat_cmp}
use Rattle.std.specs.Cmp.Lexicographic.{slice_cmp}
use Rattle.std.specs.BTreeMap.{is_at}
use Rattle.std.specs.Map.{lookup}
use Rattle.prices.specs.Answers.{Answer, answer_by, IsTold}
use Rattle.prices.specs.Step.{Step}
use Rattle.prices.proofs.Both.{take_more}
use Rattle.prices.proofs.Told.{from_push}
use Rattle.prices.proofs.table.answers.Goals as goal

pub loop-step-init : goal.loop-step-init
loop-step-init c = c.in_ok-tell.ensures [] (λ s. ap (λ (es : List (String Global × Answer)). lookup (is_at (λ k. slice_cmp nat_cmp s (string_bytes k))) es) c.new-answers.ensures.empty)

pub loop-step-preserved : goal.loop-step-preserved
loop-step-preserved c =
    let done : List Step = take c.loop-step.step-index c.args.steps.now in
    let symbols : List (List ℕ) = c.args.target.now ∷ map (λ step. step.from) done in
    let within : c.loop-step.step-index < length c.args.steps.now = omega arith in
    let from = ap (λ (s : Step). s.from) c.step.view_is in
    let more : take (c.loop-step.step-index + 1) c.args.steps.now ≡ done ++ c.step-item.result ∷ [] = take_more c.args.steps.now c.loop-step.step-index c.step-item.result within c.step-item.is in
    let all : symbols ++ c.step.inside.from.now ∷ [] ≡ c.args.target.now ∷ map (λ step. step.from) (take (c.loop-step.step-index + 1) c.args.steps.now) =
    ap (λ (x : List ℕ). symbols ++ x ∷ []) from ∙ sym (from_push c.args.target.now done c.step-item.result)
    ∙ ap (λ (l : List Step). c.args.target.now ∷ map (λ step. step.from) l) (sym more) in
    subst (λ (l : List (List ℕ)). IsTold c.tell-in-loop-step.new.answers l (answer_by c.args.by_declared.now.entries c.args.by_either.now.entries)) all
    (c.in_ok-tell-2.ensures symbols c.loop-step.invariant)
