use Rattle.std.proofs.Common.{◌≡◌, ◌∙◌, ◌-◌, ◌++◌, ◌∷◌, [], List, Some, None, ap, sym, subst, arith, rules, length, length-append, drop}
use Rattle.hl_base.specs.declared.change.Latest.{Latest}
use Rattle.text_store.specs.Contents.{IsStateAt}
use Rattle.text_store.specs.Files.{HaveShortNames}
use Rattle.text_store.specs.Image.{marks_at}
use Rattle.text_store.proofs.Walking.{with_all, marks_step, marks_stop, short_push}
use Rattle.text_store.proofs.folding.states_at.Goals as goal

pub returns-in_default : goal.returns-in_default
returns-in_default c =
    let none : IsStateAt c.args.bytes.now c.loop-left.behind None = search rules in
    sym c.loop-left.invariant.0 ∙ marks_stop c.loop-left.left c.loop-left.latest.items (drop c.loop-left.behind c.args.bytes.now) (omega (arith, c.loop-left-test.true)) none

pub loop-left-preserved : goal.loop-left-preserved
loop-left-preserved c =
    let states = c.loop-left.latest.items in
    let state = c.in-Some.state in
    let there : IsStateAt c.args.bytes.now c.loop-left.behind (Some (state, c.in-Some.next)) = search rules in
    let pushed : c.push.new.self.items ≡ states ++ state ∷ [] = search rules in (
      ap (λ (l : List Latest). with_all l (marks_at (c.loop-left.left - 1) (drop c.in-Some.next c.args.bytes.now))) pushed
          ∙ sym (marks_step c.loop-left.left states state (drop c.loop-left.behind c.args.bytes.now) (drop c.in-Some.next c.args.bytes.now) (omega (arith, c.loop-left-test.true)) there.0)
          ∙ c.loop-left.invariant.0,
      there.1,
      omega (arith, ap (λ (l : List Latest). length l) pushed, length-append states (state ∷ []), c.loop-left.invariant.2, c.loop-left-test.true),
      subst (λ (l : List Latest). HaveShortNames l) (sym pushed) (short_push states state c.loop-left.invariant.3 there.2),
    )
