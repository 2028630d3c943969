use Rattle.std.proofs.Common.{◌++◌, ℕ, List, map, unwrap_or, sym, ap, subst, ◌∙◌}
use Rattle.live_index.specs.declared.row.Row.{Row}
use Rattle.report_cells.specs.Report.{accounts_in}
use Rattle.index_cells.specs.Keys.{AreInOrder, AreOfBoth}
use Rattle.index_cells.specs.Named.{by_symbols, named}
use Rattle.index_cells.proofs.Swapping.{amounts_fit}
use Rattle.index_cells.proofs.changes.change.Goals as goal

pub no_name_goes-requires-clause-accounts : goal.no_name_goes-requires-clause-accounts
no_name_goes-requires-clause-accounts c = c.requires.room.1.1.keeps.names.accounts_rise

pub no_name_goes-requires-clause-symbols : goal.no_name_goes-requires-clause-symbols
no_name_goes-requires-clause-symbols c = c.requires.room.1.1.keeps.names.symbols_rise

pub new_accounts-requires : goal.new_accounts-requires
new_accounts-requires c = subst AreInOrder (sym c.as_slice.ensures) c.requires.room.1.1.keeps.names.accounts_rise

pub new_symbols-requires : goal.new_symbols-requires
new_symbols-requires c = subst AreInOrder (sym c.as_slice-2.ensures) c.requires.room.1.1.keeps.names.symbols_rise

pub prepare-requires : goal.prepare-requires
prepare-requires c =
    amounts_fit c.requires.room.0 c.args.gone.now c.args.more.now c.requires.room.1.0 c.args.kept.now c.requires.room.1.1 c.deref.result.now (c.deref.ensures.value ∙ c.in_ok-amounts.ensures)

pub returns-clause-made : goal.returns-clause-made
returns-clause-made c =
    let kept = c.args.kept.now in
    record {
      sums = c.in_ok-sums.ensures.made ∙ ap (λ (rows : List Row). record { before = kept.sums; after = kept.sums ++ rows }) (c.deref.ensures.value ∙ c.in_ok-amounts.ensures);
      accounts = subst (λ (names : List (List ℕ)). AreOfBoth names (accounts_in (map named c.args.more.now)) (unwrap_or c.in_ok-accounts.accounts names)) c.as_slice.ensures c.in_ok-accounts.ensures;
      symbols = subst (λ (names : List (List ℕ)). AreOfBoth names (accounts_in (by_symbols c.args.more.now)) (unwrap_or c.in_ok-symbols.symbols names)) c.as_slice-2.ensures c.in_ok-symbols.ensures;
      still = c.in_ok-names_stay.ensures;
    }

pub returns-in_err-sums-clause-stays : goal.returns-in_err-sums-clause-stays
returns-in_err-sums-clause-stays c = λ i. record c.args.kept.now { sums = c.prepare.ensures.stays i }

pub returns-clause-stays : goal.returns-clause-stays
returns-clause-stays c = λ i. record c.args.kept.now { sums = c.prepare.ensures.stays i }
