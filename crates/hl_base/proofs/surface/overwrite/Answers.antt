use Rattle.std.proofs.Common.{arith}
use Rattle.hl_base.proofs.Files.{written_over}
use Rattle.hl_base.proofs.surface.overwrite.Goals as goal

pub returns : goal.returns
returns c =
    written_over c.args.buffer.now c.fill_hole.new.buffer c.put.new.buffer c.args.piece.now c.args.len c.args.at c.requires.inside c.requires.room
    c.fill_hole.ensures.front c.fill_hole.ensures.back (omega arith) c.put.ensures
