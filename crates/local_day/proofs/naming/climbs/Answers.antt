use Rattle.std.proofs.Common.{sym, ◌∙◌}
use Rattle.std.proofs.lemmas.List.{nil_from_length}
use Rattle.local_day.proofs.Names.{up_here, up_later, up_nowhere}
use Rattle.local_day.proofs.naming.climbs.Goals as goal

pub returns-then-goes_up : goal.returns-then-goes_up
returns-then-goes_up c =
    up_here c.args.name.now c.loop-byte.left.now c.loop-byte.invariant c.in-Some.byte.now c.in-Some.rest.now c.in-Some.ensures.cases.0
    (sym c.goes_up.ensures ∙ c.if-goes_up.true)

pub loop-byte-preserved : goal.loop-byte-preserved
loop-byte-preserved c =
    up_later c.args.name.now c.loop-byte.left.now c.loop-byte.invariant c.in-Some.byte.now c.in-Some.rest.now c.in-Some.ensures.cases.0
    (sym c.goes_up.ensures ∙ c.if-goes_up.false)

pub returns : goal.returns
returns c =
    up_nowhere c.args.name.now c.loop-byte.left.now c.loop-byte.invariant
    (nil_from_length c.loop-byte.left.now c.in_default.ensures.cases)
