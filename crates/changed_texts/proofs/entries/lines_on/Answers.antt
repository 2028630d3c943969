use Rattle.std.proofs.Common.{[], ◌∷◌, ◌++◌, ap, ◌∙◌}
use Rattle.hl_base.specs.declared.items.Kind.TheVariants.{Gap}
use Rattle.hl_base.specs.declared.items.Piece.{Piece}
use Rattle.changed_texts.proofs.Several.{shifted_more}
use Rattle.changed_texts.proofs.entries.lines_on.Goals as goal

pub loop-piece-preserved : goal.loop-piece-preserved
loop-piece-preserved c =
    shifted_more c.args.lines c.args.pieces.now c.loop-piece.piece-index (record { at = 0; len = 0; line = 0; kind = Gap }) c.loop-piece.moved.items c.push.new.self.items c.loop-piece-test.true c.loop-piece.invariant
    (c.in_ok-push.ensures.items ∙ ap (λ (q : Piece). c.loop-piece.moved.items ++ q ∷ []) c.shifted.ensures)
