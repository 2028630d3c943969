use Rattle.std.proofs.Common.{arith}
use Rattle.follower.proofs.Texts.{pushed_more}
use Rattle.follower.proofs.puts.push_states.Goals as goal

pub loop-state-preserved : goal.loop-state-preserved
loop-state-preserved c =
    pushed_more c.args.states.now c.args.made.now.items c.loop-state.made.items c.push_state.new.made.items c.loop-state.state-index c.state-item.result (omega arith) c.state-item.is
    c.loop-state.invariant c.in_ok-push_state.ensures
