use Rattle.std.proofs.Common.{◌≡◌, ℕ, List, Option, sym, ap, ◌∙◌, add-one, arith}
use Rattle.std.specs.Ordering.{nat_cmp}
use Rattle.std.specs.Cmp.Lexicographic.{slice_cmp}
use Rattle.std.specs.BTreeMap.{is_at}
use Rattle.std.specs.Map.{lookup}
use Rattle.prices.specs.declared.search.Found.{Found}
use Rattle.prices.specs.Search.{after_steps, found_within}
use Rattle.prices.proofs.search.find_all.Goals as goal

pub loop-level-init : goal.loop-level-init
loop-level-init c = c.in_ok-found.ensures

pub loop-level-preserved : goal.loop-level-preserved
loop-level-preserved c =
    let now : List ℕ → Option Found = λ s. lookup (is_at (slice_cmp nat_cmp s)) c.loop-level.found.entries in
    let is : now ≡ found_within c.args.steps.now c.args.target.now c.loop-level.level = λ i s. (c.loop-level.invariant s) i in
    λ s. c.in_ok-add_level.ensures s
    ∙ ap (λ (f : List ℕ → Option Found). after_steps c.loop-level.level f c.args.steps.now s) is
    ∙ ap (λ (n : ℕ). found_within c.args.steps.now c.args.target.now n s) (sym (add-one c.loop-level.level))

pub returns : goal.returns
returns c =
    let all : c.loop-level.level ≡ 16 = omega arith in
    λ s. c.loop-level.invariant s ∙ ap (λ (n : ℕ). found_within c.args.steps.now c.args.target.now n s) all
