use Rattle.std.proofs.Common.{◌≡◌, ◌≤◌, ◌+◌, ℕ, List, [], filter, true, false, Option, refl, sym, ap, ◌∙◌, subst, rules}
use Rattle.std.specs.List.{list_any}
use Rattle.book.specs.declared.fault.Fault.{Fault}
use Rattle.book.specs.declared.transaction.Posting.{Posting}
use Rattle.book.specs.SumsBefore.{is_assigned}
use Rattle.entry_balance.proofs.Adding.{if_err}
use Rattle.entry_balance.proofs.Causes.{if_ok}
use Rattle.assertions.proofs.Balanced.{asked_same, each-stays}
use Rattle.balancing.specs.declared.groups.Part.TheVariants as part
use Rattle.balancing.specs.Parts.{is_in}
use Rattle.entry_check.specs.Asking.{judging, nodes_asked}
use Rattle.entry_check.specs.Checked.{told_before, others_before, first_failing}
use Rattle.entry_check.specs.Failing.{AreJudged}
use Rattle.entry_check.specs.Ranging.{are_in_range}
use Rattle.entry_check.proofs.Counting.{asked_two, on_pass, pass_here}
use Rattle.entry_check.proofs.Within.{out_first}
use Rattle.entry_check.proofs.Judging.{filter_all, whole_failing, in_order_parts, order_beyond, both_failing, one_failing}
use Rattle.entry_check.proofs.failure.first_failing.Goals as goal

pub returns-then-not-has_assigned-clause-fault : goal.returns-then-not-has_assigned-clause-fault
returns-then-not-has_assigned-clause-fault g c = if_ok _ _ c.judge_part.result (λ fault is.
    let told = told_before (g.S.Sums.txns c.args.sums.now) (g.S.Sums.place c.args.sums.now) in
    let others = others_before (g.S.Sums.txns c.args.sums.now) (g.S.Sums.place c.args.sums.now) in
    let ps = c.args.postings.now in
    let none : list_any is_assigned ps ≡ false = sym c.has_assigned.ensures ∙ search rules in
    whole_failing told others ps c.judge_part.new.here.own c.judge_part.new.here.below fault none (is [] c.in-Ok.ensures.fresh c.in-Ok.ensures.asked))
    c.judge_part.ensures.fault

pub returns-then-not-has_assigned-clause-range : goal.returns-then-not-has_assigned-clause-range
returns-then-not-has_assigned-clause-range g c = if_err _ _ c.judge_part.result (λ e beyond range.
    let told = told_before (g.S.Sums.txns c.args.sums.now) (g.S.Sums.place c.args.sums.now) in
    subst (λ (qs : List Posting). are_in_range told qs ≡ false) (filter_all c.args.postings.now) (beyond range [] c.in-Ok.ensures.fresh c.in-Ok.ensures.asked))
    c.judge_part.ensures.range

pub returns-in-Ok-None-clause-fault : goal.returns-in-Ok-None-clause-fault
returns-in-Ok-None-clause-fault g c = if_ok _ _ c.judge_part-in-Ok-None.result (λ fault second.
    let told = told_before (g.S.Sums.txns c.args.sums.now) (g.S.Sums.place c.args.sums.now) in
    let others = others_before (g.S.Sums.txns c.args.sums.now) (g.S.Sums.place c.args.sums.now) in
    let ps = c.args.postings.now in
    let one = filter (is_in part.ButFound) ps in
    let two = filter (is_in part.Found) ps in
    let assigned : list_any is_assigned ps ≡ true = sym c.has_assigned.ensures ∙ search rules in
    let here = c.in-Ok.here in
    let mid = c.judge_part-2.new.here in
    let new = c.judge_part-in-Ok-None.new.here in
    let first = subst (λ (o : Option Fault). AreJudged told others [] one mid.own mid.below o) c.in-Ok-None.field-0-is (c.in-Ok-None.ensures.fault [] c.in-Ok.ensures.fresh c.in-Ok.ensures.asked) in
    let still = each-stays _ _ ps (λ p e. asked_same here.own here.below mid.own mid.below p c.in-Ok-None.ensures.own c.in-Ok-None.ensures.below ∙ e) c.in-Ok.ensures.asked in
    both_failing told others one two mid.own mid.below new.own new.below fault first (second one (first.kept refl) still)
    ∙ ap (first_failing told others []) (in_order_parts ps assigned))
    c.judge_part-in-Ok-None.ensures.fault

pub returns-in-Ok-None-clause-range : goal.returns-in-Ok-None-clause-range
returns-in-Ok-None-clause-range g c = if_err _ _ c.judge_part-in-Ok-None.result (λ e beyond range.
    let told = told_before (g.S.Sums.txns c.args.sums.now) (g.S.Sums.place c.args.sums.now) in
    let others = others_before (g.S.Sums.txns c.args.sums.now) (g.S.Sums.place c.args.sums.now) in
    let ps = c.args.postings.now in
    let one = filter (is_in part.ButFound) ps in
    let assigned : list_any is_assigned ps ≡ true = sym c.has_assigned.ensures ∙ search rules in
    let here = c.in-Ok.here in
    let mid = c.judge_part-2.new.here in
    let first = subst (λ (o : Option Fault). AreJudged told others [] one mid.own mid.below o) c.in-Ok-None.field-0-is (c.in-Ok-None.ensures.fault [] c.in-Ok.ensures.fresh c.in-Ok.ensures.asked) in
    let still = each-stays _ _ ps (λ p e. asked_same here.own here.below mid.own mid.below p c.in-Ok-None.ensures.own c.in-Ok-None.ensures.below ∙ e) c.in-Ok.ensures.asked in
    order_beyond told ps (subst (λ (qs : List Posting). are_in_range told qs ≡ false) (in_order_parts ps assigned) (beyond range one (first.kept refl) still)))
    c.judge_part-in-Ok-None.ensures.range

pub returns-in-Ok-Some-clause-fault : goal.returns-in-Ok-Some-clause-fault
returns-in-Ok-Some-clause-fault g c =
    let told = told_before (g.S.Sums.txns c.args.sums.now) (g.S.Sums.place c.args.sums.now) in
    let others = others_before (g.S.Sums.txns c.args.sums.now) (g.S.Sums.place c.args.sums.now) in
    let ps = c.args.postings.now in
    let one = filter (is_in part.ButFound) ps in
    let two = filter (is_in part.Found) ps in
    let assigned : list_any is_assigned ps ≡ true = sym c.has_assigned.ensures ∙ search rules in
    let mid = c.judge_part-2.new.here in
    let first = subst (λ (o : Option Fault). AreJudged told others [] one mid.own mid.below o) c.in-Ok-Some.field-0-is (c.in-Ok-Some.ensures.fault [] c.in-Ok.ensures.fresh c.in-Ok.ensures.asked) in
    one_failing told others one two mid.own mid.below c.in-Ok-Some.fault first ∙ ap (first_failing told others []) (in_order_parts ps assigned)

pub returns-clause-range : goal.returns-clause-range
returns-clause-range g c = λ range.
    let told = told_before (g.S.Sums.txns c.args.sums.now) (g.S.Sums.place c.args.sums.now) in
    let ps = c.args.postings.now in
    let assigned : list_any is_assigned ps ≡ true = sym c.has_assigned.ensures ∙ search rules in
    order_beyond told ps (subst (λ (qs : List Posting). are_in_range told qs ≡ false) (in_order_parts ps assigned)
    (out_first told (filter (is_in part.ButFound) ps) (filter (is_in part.Found) ps) (c.in-Err-judge_part.ensures.range range [] c.in-Ok.ensures.fresh c.in-Ok.ensures.asked)))

pub returns-then-not-has_assigned-clause-few : goal.returns-then-not-has_assigned-clause-few
returns-then-not-has_assigned-clause-few g c =
    let sum = g.S.Sums.asks c.args.sums.now in
    let other = g.S.Sums.asks_other c.args.sums.now in
    let ps = c.args.postings.now in
    let n = c.judge_part.new.steps.nodes in
    on_pass (n ≤ c.args.steps.now.nodes + nodes_asked sum other (filter (is_in part.All) ps)) (n ≤ c.args.steps.now.nodes + nodes_asked sum other ps) c.judge_part.result
    (λ h. subst (λ (qs : List Posting). n ≤ c.args.steps.now.nodes + nodes_asked sum other qs) (filter_all ps) h) c.judge_part.ensures.few

pub returns-in-Ok-None-clause-few : goal.returns-in-Ok-None-clause-few
returns-in-Ok-None-clause-few g c =
    let sum = g.S.Sums.asks c.args.sums.now in
    let other = g.S.Sums.asks_other c.args.sums.now in
    let ps = c.args.postings.now in
    let weight : Posting → ℕ = λ q. judging sum other q.account q.wanted in
    let mid = c.judge_part-2.new.steps.nodes in
    let n = c.judge_part-in-Ok-None.new.steps.nodes in
    let first = pass_here (mid ≤ c.args.steps.now.nodes + nodes_asked sum other (filter (is_in part.ButFound) ps)) c.in-Ok-None.field-0 c.in-Ok-None.field-0-is c.in-Ok-None.ensures.few in
    on_pass (n ≤ mid + nodes_asked sum other (filter (is_in part.Found) ps)) (n ≤ c.args.steps.now.nodes + nodes_asked sum other ps) c.judge_part-in-Ok-None.result
    (λ h. asked_two weight ps c.args.steps.now.nodes mid n first h) c.judge_part-in-Ok-None.ensures.few
