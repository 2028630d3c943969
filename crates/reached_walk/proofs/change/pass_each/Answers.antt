use Rattle.std.proofs.Common.{◌≡◌, length, refl, arith}
use Rattle.reached_walk.specs.Notes.{Passes}
use Rattle.reached_walk.proofs.Noting.{passed-all, passed-more}
use Rattle.reached_walk.proofs.change.pass_each.Goals as goal

pub loop-change-init : goal.loop-change-init
loop-change-init c = record { passed = tt; rest = refl }

pub loop-change-preserved : goal.loop-change-preserved
loop-change-preserved c =
    let same : length c.loop-change.changes ≡ length c.args.changes.now = c.loop-change.auto.changes in
    let more = passed-more (Passes c.args.watchers.now c.args.spot) c.args.changes.now c.loop-change.changes c.loop-change.change-index c.change-item.result c.pass.new.change
    c.loop-change-test.true same c.loop-change.invariant.passed c.loop-change.invariant.rest c.pass.ensures in
    record { passed = more.0; rest = more.1 }

pub returns : goal.returns
returns c =
    let same : length c.loop-change.changes ≡ length c.args.changes.now = c.loop-change.auto.changes in
    passed-all (Passes c.args.watchers.now c.args.spot) c.args.changes.now c.loop-change.changes c.loop-change.change-index
    c.loop-change-test.false same c.loop-change.invariant.passed
