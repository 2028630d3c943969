use Rattle.std.proofs.Common.{◌+◌, ◌<◌, Option, subst}
use Rattle.std.specs.Prelude.{IfSome}
use Rattle.hl_base.specs.declared.items.Piece.{Piece}
use Rattle.text_ends.proofs.growing.longer_last.Goals as goal

pub longer-requires : goal.longer-requires
longer-requires c = subst (λ (o : Option Piece). IfSome o (λ p. p.len + c.args.more < 18446744073709551616)) c.in-Some.is c.requires
