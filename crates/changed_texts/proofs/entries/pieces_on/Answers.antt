use Rattle.std.proofs.Common.{◌+◌, ◌^◌, ◌<◌, List, map, sym, ap, subst, ◌∙◌}
use Rattle.std.specs.List.{AllByRecursion}
use Rattle.hl_base.specs.Pieces.{bytes_in}
use Rattle.hl_base.specs.declared.items.Piece.{Piece}
use Rattle.journal_reader.specs.Whole.{AreWithin}
use Rattle.text_ends.specs.Growth.{shifted}
use Rattle.changed_texts.proofs.Several.{all_within_lines, are_within, bytes_shifted}
use Rattle.changed_texts.proofs.entries.pieces_on.Goals as goal

pub lines_on-requires : goal.lines_on-requires
lines_on-requires c =
    subst (λ (ps : List Piece). AllByRecursion (λ p. (0 + p.at < 2 ^ 64) × (c.args.lines + p.line < 2 ^ 64)) ps) (sym c.as_slice.ensures)
    (all_within_lines c.args.bytes.now c.args.lines c.in_ok-pieces.pieces c.requires c.in_ok-pieces.ensures.within)

pub returns-clause-pieces : goal.returns-clause-pieces
returns-clause-pieces c = c.in_ok-moved.ensures ∙ ap (map (shifted 0 c.args.lines)) (c.as_slice.ensures ∙ c.in_ok-pieces.ensures.cut)

pub returns-clause-within : goal.returns-clause-within
returns-clause-within c =
    subst (AreWithin c.args.bytes.now) (sym (c.in_ok-moved.ensures ∙ ap (map (shifted 0 c.args.lines)) c.as_slice.ensures))
    (are_within c.args.bytes.now c.args.lines c.in_ok-pieces.pieces c.requires c.in_ok-pieces.ensures.within)

pub returns-clause-size : goal.returns-clause-size
returns-clause-size c =
    ap bytes_in (c.in_ok-moved.ensures ∙ ap (map (shifted 0 c.args.lines)) c.as_slice.ensures)
    ∙ bytes_shifted c.args.lines c.in_ok-pieces.pieces ∙ c.in_ok-pieces.ensures.whole
