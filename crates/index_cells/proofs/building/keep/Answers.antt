use Rattle.std.proofs.Common.{List, refl, sym, subst, ◌∙◌}
use Rattle.live_index.specs.Rows.{TurnoverFits}
use Rattle.live_index.specs.Standing.{standing}
use Rattle.live_index.specs.declared.row.Row.{Row}
use Rattle.live_index.proofs.NetLaws.{fits-by}
use Rattle.index_cells.specs.Rowed.{rowed_all}
use Rattle.index_cells.specs.declared.kept.Kept.{Kept}
use Rattle.index_cells.proofs.Keeping.{kept_keeps}
use Rattle.index_cells.proofs.Only.{accounts_named}
use Rattle.index_cells.proofs.Taking.{rowed_fit}
use Rattle.index_cells.proofs.building.keep.Goals as goal

pub of-requires : goal.of-requires
of-requires c =
    subst (λ (rows : List Row). TurnoverFits (standing rows)) (sym (c.deref.ensures.value ∙ c.in_ok-amounts.ensures))
    (fits-by (rowed_all c.args.takings.now) (rowed_all c.args.takings.now) (λ row. refl) (rowed_fit c.args.takings.now c.requires))

pub returns-clause-keeps : goal.returns-clause-keeps
returns-clause-keeps c =
    let kept : Kept = record { sums = c.in_ok-sums.sums; accounts = c.in_ok-accounts.accounts; symbols = c.in_ok-symbols.symbols } in
    kept_keeps c.args.takings.now kept c.requires (c.in_ok-sums.ensures ∙ c.deref.ensures.value ∙ c.in_ok-amounts.ensures) c.in_ok-accounts.ensures c.in_ok-symbols.ensures

pub returns-clause-names : goal.returns-clause-names
returns-clause-names c = record {
  accounts = c.in_ok-accounts.ensures ∙ accounts_named c.args.takings.now;
  symbols = c.in_ok-symbols.ensures;
}
