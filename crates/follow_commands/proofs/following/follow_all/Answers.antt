use Rattle.std.proofs.Common.{Option, Ok, subst}
use Rattle.follower.specs.declared.fault.Accepted.{Accepted}
use Rattle.follow_commands.specs.Walks.{StepsOn}
use Rattle.follow_commands.proofs.Walking.{led_nowhere, led_on, led_to_end, led_too_far, stopped}
use Rattle.follow_commands.proofs.following.follow_all.Goals as goal

pub loop-init : goal.loop-init
loop-init g c = led_nowhere g.J.Source g.D.Disk c.args.source.now c.args.follower.now c.args.tally.now

pub returns-in-Err : goal.returns-in-Err
returns-in-Err g c =
    stopped g.J.Source g.D.Disk c.args.source.now c.args.follower.now c.args.tally.now c.loop.source c.follow_next.new.source c.loop.follower c.follow_next.new.follower c.loop.tally c.loop.invariant
    c.in-Err.stop c.in-Err.ensures.steps c.in-Err.ensures.sound

pub returns-in-None : goal.returns-in-None
returns-in-None g c =
    let steps = subst (λ (o : Option Accepted). StepsOn g.J.Source g.D.Disk c.loop.source c.follow_next.new.source c.loop.follower c.follow_next.new.follower (Ok o)) c.in-None.is c.in-Ok.ensures.steps in
    led_to_end g.J.Source g.D.Disk c.args.source.now c.args.follower.now c.args.tally.now c.loop.source c.follow_next.new.source c.loop.follower c.follow_next.new.follower c.loop.tally c.loop.invariant
    tt steps.0 steps.1

pub loop-preserved : goal.loop-preserved
loop-preserved g c =
    let source = g.J.Source in
    let steps = subst (λ (o : Option Accepted). StepsOn source g.D.Disk c.loop.source c.follow_next.new.source c.loop.follower c.follow_next.new.follower (Ok o)) c.in-Some.is c.in-Ok.ensures.steps in
    led_on source g.D.Disk c.args.source.now c.args.follower.now c.args.tally.now c.loop.source c.follow_next.new.source c.loop.follower c.follow_next.new.follower c.loop.tally c.loop.invariant
    c.in-Some.accepted steps.0 steps.1 steps.2 steps.3 (λ sound. (c.in-Ok.ensures.sound sound).1) c.counting.result c.counting.ensures

pub returns : goal.returns
returns g c = led_too_far g.J.Source g.D.Disk c.args.source.now c.args.follower.now c.args.tally.now c.loop.source c.loop.follower c.loop.tally c.loop.invariant
