use Rattle.std.proofs.Common.{◌≤◌, take}
use Rattle.hl_num.specs.Reading.{group_sizes}
use Rattle.hl_num.specs.Groups.{IsSummary}
use Rattle.hl_num.proofs.reading.groups_of.Given as goal

abbrev pub invariant-loop-byte : goal.invariant-loop-byte
invariant-loop-byte l = record {
  seen : IsSummary (group_sizes (take l.byte-index l.whole)) l.groups.marks l.groups.last l.groups.previous l.groups.are_full;
  few : l.groups.marks ≤ l.byte-index;
  short : l.groups.last ≤ l.byte-index;
}
