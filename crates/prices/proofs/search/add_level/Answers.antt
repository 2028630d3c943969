use Rattle.std.proofs.Common.{◌≡◌, ℕ, ◌<◌, List, length, take, Option, sym, ap, ◌∙◌, arith}
use Rattle.std.specs.Ordering.{nat_cmp}
use Rattle.std.specs.Cmp.Lexicographic.{slice_cmp}
use Rattle.std.specs.BTreeMap.{is_at}
use Rattle.std.specs.Map.{lookup}
use Rattle.prices.specs.declared.search.Found.{Found}
use Rattle.prices.specs.Step.{Step}
use Rattle.prices.specs.Search.{with_step, after_steps}
use Rattle.prices.proofs.Levels.{step_more}
use Rattle.prices.proofs.Both.{take_more}
use Rattle.prices.proofs.search.add_level.Goals as goal

pub loop-step-preserved : goal.loop-step-preserved
loop-step-preserved c =
    let old : List ℕ → Option Found = λ s. lookup (is_at (slice_cmp nat_cmp s)) c.args.found.now.entries in
    let now : List ℕ → Option Found = λ s. lookup (is_at (slice_cmp nat_cmp s)) c.loop-step.found.entries in
    let done : List Step = take c.loop-step.step-index c.args.steps.now in
    let is : now ≡ after_steps c.args.level old done = λ i s. (c.loop-step.invariant s) i in
    let within : c.loop-step.step-index < length c.args.steps.now = omega arith in
    λ s. c.in_ok-add_step.ensures s
    ∙ ap (λ (f : List ℕ → Option Found). with_step c.args.level f c.step-item.result s) is
    ∙ step_more c.args.level old done c.step-item.result s
    ∙ ap (λ (l : List Step). after_steps c.args.level old l s) (sym (take_more c.args.steps.now c.loop-step.step-index c.step-item.result within c.step-item.is))
