use Rattle.std.proofs.Common.{◌≡◌, drop, find}
use Rattle.report_options.specs.Conflicts.{is_clash}
use Rattle.report_options.proofs.conflicts.rival.Given as goal

abbrev pub invariant-loop-item : goal.invariant-loop-item
invariant-loop-item l = find (λ item. is_clash item.name l.later) (drop l.item-index l.earlier) ≡ find (λ item. is_clash item.name l.later) l.earlier
