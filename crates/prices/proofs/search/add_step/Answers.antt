use Rattle.std.proofs.Common.{◌≡◌, ℕ, List, true, false, cond, Option, Some, sym, ap, subst, ◌∙◌}
use Rattle.std.specs.Prelude.{is_some}
use Rattle.std.specs.Ordering.{nat_cmp, is_eq}
use Rattle.std.specs.Cmp.Lexicographic.{slice_cmp}
use Rattle.std.specs.BTreeMap.{is_at}
use Rattle.std.specs.Map.{lookup}
use Rattle.prices.specs.declared.search.Found.{Found}
use Rattle.prices.specs.Step.{Step}
use Rattle.prices.proofs.Levels.{step_known, step_none, step_found}
use Rattle.prices.proofs.search.add_step.Goals as goal

pub returns-then-contains_key : goal.returns-then-contains_key
returns-then-contains_key c =
    let found : List ℕ → Option Found = λ s. lookup (is_at (slice_cmp nat_cmp s)) c.args.found.now.entries in
    let from : c.new.result ≡ c.args.step.now.from = c.new.ensures ∙ ap (λ (s : Step). s.from) c.step.view_is in
    let known : is_some (found c.args.step.now.from) ≡ true = subst (λ (t : List ℕ). is_some (found t) ≡ true) from (sym c.contains_key.ensures ∙ c.if-contains_key.true) in
    λ s. step_known c.args.level found c.args.step.now s known

pub returns-in-None : goal.returns-in-None
returns-in-None c =
    let found : List ℕ → Option Found = λ s. lookup (is_at (slice_cmp nat_cmp s)) c.args.found.now.entries in
    λ s. step_none c.args.level found c.args.step.now s (sym c.in_ok-way.ensures ∙ c.in-None.is)

pub returns-in_ok-insert-in-Some : goal.returns-in_ok-insert-in-Some
returns-in_ok-insert-in-Some c =
    let found : List ℕ → Option Found = λ s. lookup (is_at (slice_cmp nat_cmp s)) c.args.found.now.entries in
    let key : c.new-in-Some.result ≡ c.args.step.now.from = c.new-in-Some.ensures ∙ ap (λ (s : Step). s.from) c.step.view_is in
    let from : c.new.result ≡ c.args.step.now.from = c.new.ensures ∙ ap (λ (s : Step). s.from) c.step.view_is in
    let absent : is_some (found c.args.step.now.from) ≡ false = subst (λ (t : List ℕ). is_some (found t) ≡ false) from (sym c.contains_key.ensures ∙ c.if-contains_key.false) in
    λ s. c.in_ok-insert-in-Some.ensures.updates.0 s
    ∙ ap (λ (t : List ℕ). cond (is_eq (slice_cmp nat_cmp t s)) (Some c.in-Some.way) (found s)) key
    ∙ step_found c.args.level found c.args.step.now s c.in-Some.way absent (sym c.in_ok-way.ensures ∙ c.in-Some.is)
