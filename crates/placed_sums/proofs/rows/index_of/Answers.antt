use Rattle.std.proofs.Common.{List, sym, ◌∙◌, subst}
use Rattle.live_index.specs.Rows.{TurnoverFits}
use Rattle.live_index.specs.Standing.{standing}
use Rattle.live_index.specs.declared.row.Row.{Row}
use Rattle.placed_sums.proofs.Fitting.{standing_fit}
use Rattle.placed_sums.proofs.Indexing.{stand_own}
use Rattle.placed_sums.proofs.rows.index_of.Goals as goal

pub of-requires : goal.of-requires
of-requires c =
    subst (λ (rows : List Row). TurnoverFits (standing rows)) (sym (c.deref.ensures.value ∙ c.in_ok-rows.ensures)) (standing_fit c.args.book.now c.requires)

pub returns-clause-stand : goal.returns-clause-stand
returns-clause-stand c = stand_own c.in_ok-index.index c.args.book.now (c.in_ok-index.ensures ∙ c.deref.ensures.value ∙ c.in_ok-rows.ensures)
