use Rattle.std.proofs.Common.{◌≡◌, ◌<◌, ◌≤◌, ◌-◌, vec_len}
use Rattle.follower.specs.Fills.{FillsOn}
use Rattle.follower.proofs.filling.fill.Given as goal

abbrev pub invariant-loop-bytes : goal.invariant-loop-bytes
invariant-loop-bytes g l =
    let source = g.J.Source in
    record {
      room : vec_len l.bytes < l.count → 0 < vec_len l.room;
      longer : vec_len l.fn.bytes ≤ vec_len l.bytes;
      within : vec_len l.bytes ≤ l.count;
      fills : FillsOn (source.left l.fn.source) (source.left l.source) l.fn.bytes.items l.bytes.items;
      counted : source.faults l.source ≡ source.faults l.fn.source;
      sound : source.IsSound l.fn.source → source.IsSound l.source;
    }

abbrev pub decreases-loop-bytes : goal.decreases-loop-bytes
decreases-loop-bytes g l = l.count - vec_len l.bytes
