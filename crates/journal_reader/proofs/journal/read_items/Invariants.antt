use Rattle.std.proofs.Common.{◌≡◌, ◌+◌, [], take, drop}
use Rattle.hl_base.specs.Pieces.{bytes_in}
use Rattle.entry_reader.specs.Contexts.{context_of}
use Rattle.journal_reader.specs.Items.{reading_from}
use Rattle.journal_reader.proofs.Whole.{items_at, items_before}
use Rattle.journal_reader.proofs.journal.read_items.Given as goal

abbrev pub invariant-loop-piece : goal.invariant-loop-piece
invariant-loop-piece g l = record {
  so_far : items_before l.items.items (reading_from l.fn.year (items_at l.items.items) l.text (drop l.piece-index l.pieces)) ≡ reading_from l.fn.year [] l.text l.pieces;
  context : l.context ≡ context_of l.fn.year (items_at l.items.items);
  read : l.steps.bytes_read ≡ l.fn.steps.bytes_read + bytes_in (take l.piece-index l.pieces);
  others : l.steps ≡ record l.fn.steps { bytes_read = l.steps.bytes_read };
}
