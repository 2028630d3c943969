use Rattle.std.proofs.Common.{◌≡◌, ◌<◌, [], drop}
use Rattle.hl_base.specs.Calls.{history}
use Rattle.hl_base.proofs.Replays.{IsReplayedTo}
use Rattle.hl_base.proofs.disk_record.replay.Given as goal

abbrev pub invariant-loop-i : goal.invariant-loop-i
invariant-loop-i l = record {
  replayed : IsReplayedTo l.initial.surface.text (history [] l.calls l.pieces) (drop l.i l.calls) l.rest l.surface.text l.i;
  before : l.i < l.call;
  room : l.surface.room ≡ l.initial.surface.room;
}
