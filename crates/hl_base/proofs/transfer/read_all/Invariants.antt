use Rattle.std.proofs.Common.{◌≡◌, ◌<◌, ◌≤◌, ◌+◌, ◌-◌, ◌++◌, ℕ, List, Some, IfSome, vec_len}
use Rattle.hl_base.proofs.transfer.read_all.Given as goal

-- what was there is what was read and what is left
abbrev pub invariant-loop-bytes : goal.invariant-loop-bytes
invariant-loop-bytes g l =
    let source = g.J.Source in
    record {
      room : 0 < vec_len l.room;
      bound : vec_len l.bytes ≤ l.limit + 1;
      left : IfSome (source.left l.fn.source) (λ all. (rest : List ℕ) × (source.left l.source ≡ Some rest) × (all ≡ l.bytes.items ++ rest));
      counted : source.faults l.source ≡ source.faults l.fn.source;
      sound : source.IsSound l.fn.source → source.IsSound l.source;
    }

abbrev pub decreases-loop-bytes : goal.decreases-loop-bytes
decreases-loop-bytes g l = (l.limit + 1) - vec_len l.bytes
