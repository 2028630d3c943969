use Rattle.loaded_texts.proofs.Pieces.{pieces_read}
use Rattle.live_journal.proofs.live.Live.pieces.Goals as goal

pub of-requires : goal.of-requires
of-requires c =
    let s = c.self.inside in
    rw (c.as_slice.ensures, c.as_slice-2.ensures) (pieces_read s.year s.text s.loaded.items c.self.invariant.read)

pub returns-clause-each : goal.returns-clause-each
returns-clause-each c = rw (← c.self.view_is) (rw c.as_slice.ensures at c.of.ensures.each)

pub returns-clause-whole : goal.returns-clause-whole
returns-clause-whole c = rw (← c.self.view_is) (rw c.as_slice.ensures at c.of.ensures.whole)
