use Rattle.std.proofs.Common.{◌≡◌, None, take, sym, subst, ◌∙◌}
use Rattle.std.specs.List.{AllByRecursion}
use Rattle.report_cells.specs.Taken.{Taken}
use Rattle.index_cells.proofs.Keeping.{all_by_symbol}
use Rattle.index_cells.proofs.names.symbols_of.Goals as goal

pub names_of-requires : goal.names_of-requires
names_of-requires c =
    subst (AllByRecursion (λ (t : Taken). t.amount ≡ None)) (sym (c.deref.ensures.value ∙ c.loop-taking.invariant)) (all_by_symbol (take c.loop-taking.taking-index c.args.takings.now))
