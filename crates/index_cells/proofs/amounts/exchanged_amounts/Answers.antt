use Rattle.std.proofs.Common.{◌++◌, List, ap, ◌∙◌}
use Rattle.live_index.specs.declared.row.Row.{Row}
use Rattle.index_cells.specs.Rowed.{rowed_all, rowed_off}
use Rattle.index_cells.proofs.amounts.exchanged_amounts.Goals as goal

pub returns : goal.returns
returns c =
    c.in_ok-push_amounts.ensures
    ∙ ap (λ (rows : List Row). rows ++ rowed_all c.args.more.now) (c.in_ok-push_gone.ensures ∙ ap (λ (rows : List Row). rows ++ rowed_off c.args.gone.now) c.new-rows.ensures.items)
