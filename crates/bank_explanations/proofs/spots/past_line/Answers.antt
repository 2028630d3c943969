use Rattle.std.proofs.Common.{◌-◌}
use Rattle.std.proofs.lemmas.List.{nil_from_length}
use Rattle.csv_entries.specs.Records.{config_of}
use Rattle.bank_explanations.specs.Begun.{after, begun, state_of}
use Rattle.bank_explanations.proofs.Walking.{left_done, left_more, spot_done, spot_more}
use Rattle.bank_explanations.proofs.spots.past_line.Goals as goal

pub loop-first-preserved : goal.loop-first-preserved
loop-first-preserved c =
    let cfg = config_of c.args.separator in
    record {
      spot = spot_more cfg (after cfg (state_of c.args.spot) c.args.line.now) (state_of c.loop-first.here) (state_of c.next_spot-next.result) c.loop-first.rest.now c.in-Some.more.now c.in-Some.first.now
          c.loop-first.invariant.spot c.in-Some.ensures.cases.0 c.next_spot-next.ensures;
      left = left_more cfg (c.args.left - begun cfg (state_of c.args.spot) c.args.line.now) c.loop-first.left c.left_behind-left.result (state_of c.loop-first.here) (state_of c.next_spot-next.result)
          c.loop-first.rest.now c.in-Some.more.now c.in-Some.first.now c.loop-first.invariant.left c.in-Some.ensures.cases.0 c.next_spot-next.ensures c.left_behind-left.ensures;
    }

pub returns-clause-spot : goal.returns-clause-spot
returns-clause-spot c =
    let cfg = config_of c.args.separator in
    spot_done cfg (after cfg (state_of c.args.spot) c.args.line.now) (state_of c.loop-first.here) c.loop-first.rest.now c.loop-first.invariant.spot
    (nil_from_length c.loop-first.rest.now c.in_default.ensures.cases)

pub returns-clause-left : goal.returns-clause-left
returns-clause-left c =
    let cfg = config_of c.args.separator in
    left_done cfg (c.args.left - begun cfg (state_of c.args.spot) c.args.line.now) c.loop-first.left (state_of c.loop-first.here) c.loop-first.rest.now c.loop-first.invariant.left
    (nil_from_length c.loop-first.rest.now c.in_default.ensures.cases)
