use Rattle.std.proofs.Common.{List, length, map, sym, ap, ◌∙◌}
use Rattle.query.specs.OwnLetters.{own_in}
use Rattle.rule_entries.specs.Counted.{excess_over, posting_limit}
use Rattle.generated.specs.Added.{all_added, with_added}
use Rattle.generated.specs.Asking.{all_asked}
use Rattle.generated.specs.Judged.{judged}
use Rattle.generated.specs.Rules.{Asked}
use Rattle.generated.proofs.Ending.{judged_by, refused_by, refused_gives}
use Rattle.generated.proofs.Steps.{ready_after}
use Rattle.generated.proofs.auto.ask_ready.Goals as goal

pub add_all-requires : goal.add_all-requires
add_all-requires c = ready_after c.args.askers.now c.count_added.new.askers c.args.accounts.now.kept.now c.requires c.count_added.ensures.ask

pub returns-in-Some : goal.returns-in-Some
returns-in-Some c =
    let own = own_in c.args.accounts.now.types.now in
    let rules = all_asked c.args.askers.now in
    let txns = c.args.txns.now in
    refused_gives c.in-Some.excess c.too_many.result _ c.too_many.ensures
    (refused_by (excess_over posting_limit (length (all_added own rules txns))) c.in-Some.excess (judged (map (with_added own rules) txns))
    (sym (c.in-Some.ensures (length (all_added own rules txns)) c.count_added.ensures.count)))

pub returns-in-None : goal.returns-in-None
returns-in-None c =
    let own = own_in c.args.accounts.now.types.now in
    let rules = all_asked c.args.askers.now in
    let txns = c.args.txns.now in
    judged_by c.add_all.result (excess_over posting_limit (length (all_added own rules txns))) (map (with_added own (all_asked c.count_added.new.askers)) txns) (map (with_added own rules) txns)
    (sym (c.posting_excess.ensures (length (all_added own rules txns)) c.count_added.ensures.count) ∙ c.in-None.is)
    (ap (λ (rs : List Asked). map (with_added own rs) txns) c.count_added.ensures.ask.same)
    c.add_all.ensures
