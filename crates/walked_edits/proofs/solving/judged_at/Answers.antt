use Rattle.std.proofs.Common.{◌+◌, ◌≤◌, OnOk, subst, ◌∙◌}
use Rattle.placed_sums.specs.Days.{numbers_in}
use Rattle.placed_sums.specs.Placed.{Known}
use Rattle.walked_edits.specs.Counting.{nodes_of}
use Rattle.walked_edits.proofs.Founds.{comes_to, counted_one, judged_sums}
use Rattle.walked_edits.proofs.Turning.{sums_turn}
use Rattle.walked_edits.proofs.solving.judged_at.Goals as goal

pub new-sums-requires-clause-told : goal.new-sums-requires-clause-told
new-sums-requires-clause-told g c = c.requires.tell.sums.stand.told

pub new-sums-requires-clause-fits : goal.new-sums-requires-clause-fits
new-sums-requires-clause-fits g c = sums_turn c.args.by.now.book.now.items c.args.by.now.kept.now c.requires.tell.sums

pub new-sums-requires-clause-earlier : goal.new-sums-requires-clause-earlier
new-sums-requires-clause-earlier g c = c.before-earlier.ensures c.requires.tell.whole c.requires.tell.days ∙ c.requires.tell.earlier

pub new-sums-requires-clause-symbols : goal.new-sums-requires-clause-symbols
new-sums-requires-clause-symbols g c = c.requires.tell.named

pub returns-clause-judged : goal.returns-clause-judged
returns-clause-judged g c =
    judged_sums c.args.by.now.book.now.items c.args.spot c.args.written c.check_placed.result c.new-sums.result c.args.by.now.kept.now.index (numbers_in c.before-earlier.result.now) c.args.by.now.symbols.now
    c.new-sums.ensures c.check_placed.ensures.solved

pub returns-clause-comes : goal.returns-clause-comes
returns-clause-comes g c = λ after solved f.
    comes_to c.args.by.now.book.now.items after c.args.spot c.args.written solved c.check_placed.result c.new-sums.result c.args.by.now.kept.now.index (numbers_in c.before-earlier.result.now) c.args.by.now.symbols.now
    c.new-sums.ensures f c.check_placed.ensures.answer c.check_placed.ensures.mixed

pub returns-clause-counted : goal.returns-clause-counted
returns-clause-counted g c = counted_one c.args.steps.now c.check_placed.new.steps c.check_placed.ensures.steps

pub returns-clause-few : goal.returns-clause-few
returns-clause-few g c =
    subst (λ (k : Known). OnOk c.check_placed.result (c.check_placed.new.steps.nodes ≤ c.args.steps.now.nodes + nodes_of k.symbols c.args.written)) c.new-sums.ensures c.check_placed.ensures.few
