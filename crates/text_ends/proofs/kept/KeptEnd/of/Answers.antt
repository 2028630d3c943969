use Rattle.std.proofs.Common.{Option, length, sym, subst, ◌≤◌}
use Rattle.std.specs.Prelude.{IfSome}
use Rattle.hl_base.specs.declared.items.Piece.{Piece}
use Rattle.text_ends.proofs.Measures.{last_within}
use Rattle.text_ends.proofs.kept.KeptEnd.of.Goals as goal

pub returns-clause-measured : goal.returns-clause-measured
returns-clause-measured c = record {
  lines = c.count_lines.ensures.few;
  last = subst (λ (o : Option Piece). IfSome o (λ p. p.len ≤ length c.args.text.now)) (sym c.last_of.ensures) (last_within (length c.args.text.now) c.args.pieces.now c.requires.within);
}
