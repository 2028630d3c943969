use Rattle.std.proofs.Common.{sym, ◌∙◌}
use Rattle.index_cells.proofs.Merging.{already}
use Rattle.index_cells.proofs.names.with_names.Goals as goal

pub returns-then-known : goal.returns-then-known
returns-then-known c = already c.args.names.now c.args.more.now c.requires (sym c.are_named-known.ensures ∙ c.if-known.true)
