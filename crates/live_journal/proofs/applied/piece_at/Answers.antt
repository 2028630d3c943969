use Rattle.std.proofs.Common.{◌<◌, ◌≤◌, length, arith}
use Rattle.live_journal.proofs.Changes.{got_piece, no_piece}
use Rattle.live_journal.proofs.applied.piece_at.Goals as goal

pub returns-then-at-items : goal.returns-then-at-items
returns-then-at-items c = got_piece c.args.items.now c.args.at _ (omega (arith, c.if-at-items.true))

pub returns-else-at-items : goal.returns-else-at-items
returns-else-at-items c = no_piece c.args.items.now c.args.at (omega (arith, c.if-at-items.false))
