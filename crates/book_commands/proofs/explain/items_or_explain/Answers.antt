use Rattle.std.proofs.Common.{arith, subst, sym}
use Rattle.journal_reader.specs.Whole.{AreWithin}
use Rattle.journal_reader.proofs.Whole.{within}
use Rattle.book_commands.proofs.explain.items_or_explain.Goals as goal

pub read_or_explain-requires-clause-within : goal.read_or_explain-requires-clause-within
read_or_explain-requires-clause-within g c κs inside =
    subst (AreWithin c.args.text.now) (sym c.as_slice.ensures)
    (within c.args.text.now c.in_ok-pieces.pieces (omega (arith, c.requires.size)) c.in_ok-pieces.ensures.within)
