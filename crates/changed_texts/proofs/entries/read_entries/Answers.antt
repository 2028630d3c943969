use Rattle.std.proofs.Common.{List, sym, subst, ◌∙◌}
use Rattle.hl_base.specs.Gives.{Gives}
use Rattle.hl_base.specs.declared.items.Piece.{Piece}
use Rattle.entry_reader.specs.Causes.{cause_in}
use Rattle.journal_reader.specs.Items.{reading_from}
use Rattle.journal_reader.specs.Whole.{AreWithin}
use Rattle.text_ends.specs.Ends.{items_at}
use Rattle.changed_texts.proofs.entries.read_entries.Goals as goal

pub read_pieces-requires : goal.read_pieces-requires
read_pieces-requires g c = subst (AreWithin c.args.bytes.now) (sym c.as_slice.ensures.value) c.in_ok-moved.ensures.within

pub returns-clause-value : goal.returns-clause-value
returns-clause-value g c =
    subst (λ (ps : List Piece). Gives (λ items. items) cause_in c.read_pieces.result (reading_from c.args.year (items_at c.args.before.now) c.args.bytes.now ps))
    (c.as_slice.ensures.value ∙ c.in_ok-moved.ensures.pieces) c.read_pieces.ensures.value
