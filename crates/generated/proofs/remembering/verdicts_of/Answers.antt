use Rattle.std.proofs.Common.{ℕ, ◌+◌, Bool, List, Option, length, sym, ap, subst, ◌∙◌}
use Rattle.std.proofs.lemmas.List.{length-append}
use Rattle.generated.specs.Alone.{AreVerdicts, IsVerdict}
use Rattle.generated.specs.Asking.{all_asked}
use Rattle.generated.specs.Rules.{Asked}
use Rattle.generated.proofs.Keeping.{verdicts_more, verdicts_none}
use Rattle.generated.proofs.Steps.{answers_there, ask_none, ask_there, there}
use Rattle.generated.proofs.remembering.verdicts_of.Goals as goal

pub loop-asker-init : goal.loop-asker-init
loop-asker-init c = record {
  many = ap length c.in_ok-known.ensures.items;
  verdicts = verdicts_none c.args.posting.now.account (all_asked c.args.askers.now) _ c.in_ok-known.ensures.items;
  ask = ask_none c.args.askers.now c.requires;
}

pub verdict_of-requires : goal.verdict_of-requires
verdict_of-requires c = answers_there c.args.askers.now c.loop-asker.askers c.loop-asker.asker-index c.asker-item.result c.loop-asker.invariant.ask c.loop-asker-test.true

pub loop-asker-preserved : goal.loop-asker-preserved
loop-asker-preserved c =
    let old = c.args.askers.now in
    let now = c.loop-asker.askers in
    let at = c.loop-asker.asker-index in
    let d = c.asker-item.result in
    let account = c.args.posting.now.account in
    let ask = c.loop-asker.invariant.ask in
    let inside = c.loop-asker-test.true in
    record {
      many = ap length c.in_ok-push.ensures.items ∙ length-append c.loop-asker.known.items _ ∙ ap (λ (n : ℕ). n + 1) c.loop-asker.invariant.many;
      verdicts = verdicts_more account (all_asked old) c.loop-asker.known.items _ at c.verdict_of.result c.loop-asker.invariant.many c.loop-asker.invariant.verdicts
          (λ e. subst (λ (rule : Asked). IsVerdict account rule c.verdict_of.result) (there old now at d ask inside e) c.verdict_of.ensures.verdict) c.in_ok-push.ensures.items;
      ask = ask_there old now at d ask inside c.verdict_of.new.asker c.verdict_of.ensures.asks;
    }

pub returns : goal.returns
returns c = record {
  verdicts = subst (λ (known : List (Option Bool)). AreVerdicts c.args.posting.now.account (all_asked c.args.askers.now) known) (sym c.from_vec.ensures) c.loop-asker.invariant.verdicts;
  ask = c.loop-asker.invariant.ask;
}
