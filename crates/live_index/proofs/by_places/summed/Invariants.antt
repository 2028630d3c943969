use Rattle.std.proofs.Common.{◌≡◌, length}
use Rattle.live_index.proofs.SumLaws.{SummedUpto}
use Rattle.live_index.proofs.by_places.summed.Given as goal

-- the sums of so many numbers of decimals
abbrev pub invariant-loop-places : goal.invariant-loop-places
invariant-loop-places l = record {
  long : length l.sums.items ≡ l.places;
  sums : SummedUpto l.first l.second l.sums.items l.places;
}
