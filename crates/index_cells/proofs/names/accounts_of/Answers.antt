use Rattle.std.proofs.Common.{◌≡◌, None, take, sym, subst, ◌∙◌}
use Rattle.std.specs.List.{AllByRecursion}
use Rattle.report_cells.specs.Taken.{Taken}
use Rattle.index_cells.proofs.Keeping.{all_named}
use Rattle.index_cells.proofs.names.accounts_of.Goals as goal

pub names_of-requires : goal.names_of-requires
names_of-requires c =
    subst (AllByRecursion (λ (t : Taken). t.amount ≡ None)) (sym (c.deref.ensures.value ∙ c.loop-taking.invariant)) (all_named (take c.loop-taking.taking-index c.args.takings.now))
