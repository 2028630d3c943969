use Rattle.std.proofs.Common.{map}
use Rattle.text_pieces.proofs.Cutting.{each_at, whole_text}
use Rattle.text_pieces.proofs.pieces.Pieces.of.Goals as goal

pub returns-clause-each : goal.returns-clause-each
returns-clause-each c = each_at c.args.text.now (map (λ p. p.piece) c.args.items.now) c.requires

pub returns-clause-whole : goal.returns-clause-whole
returns-clause-whole c = whole_text c.args.text.now (map (λ p. p.piece) c.args.items.now) c.requires
