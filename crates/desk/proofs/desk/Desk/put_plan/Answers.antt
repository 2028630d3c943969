use Rattle.std.proofs.Common.{ap, sym, ◌∙◌}
use Rattle.live_journal.specs.Journals.{Planned}
use Rattle.desk.specs.Reading.{is_planned}
use Rattle.desk.proofs.Served.{unchanged_by}
use Rattle.desk.proofs.desk.Desk.put_plan.Goals as goal

pub returns-then-same-clause-served : goal.returns-then-same-clause-served
returns-then-same-clause-served g c =
    let same = sym (ap (λ (p : Planned). p.same) c.requires.plan) ∙ sym (c.same-same.ensures ∙ ap (λ (p : Planned). p.same) c.get.ensures) ∙ c.if-same.true in
    rw (c.dropped.ensures, c.revision-revision.ensures) (unchanged_by c.args.self.now c.args.deed.now same)

pub returns-then-same-clause-accepted : goal.returns-then-same-clause-accepted
returns-then-same-clause-accepted g c = ap is_planned c.dropped.ensures

pub put_made-requires-clause-plan : goal.put_made-requires-clause-plan
put_made-requires-clause-plan g c = c.requires.plan

pub put_made-requires-clause-differs : goal.put_made-requires-clause-differs
put_made-requires-clause-differs g c = sym (c.same-same.ensures ∙ ap (λ (p : Planned). p.same) c.get.ensures) ∙ c.if-same.false

pub put_made-requires-clause-inside : goal.put_made-requires-clause-inside
put_made-requires-clause-inside g c = c.requires.inside

pub put_made-requires-clause-change : goal.put_made-requires-clause-change
put_made-requires-clause-change g c =
    c.make_ready-ready.ensures.change c.args.self.now.live.text (c.splice.ensures ∙ ap (λ (p : Planned). p.splice) (c.get-2.ensures ∙ c.requires.plan))

pub put_made-requires-clause-states : goal.put_made-requires-clause-states
put_made-requires-clause-states g c = c.make_ready-ready.ensures.states
