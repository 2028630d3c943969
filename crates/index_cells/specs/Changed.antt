-- What is prepared for what is kept, and what becomes of that.
use Rattle.std.specs.Prelude.{◌≡◌, List, ◌++◌, map, unwrap_or}
use Rattle.report_cells.specs.Report.{accounts_in}
use Rattle.report_cells.specs.Taken.{Taken}
use Rattle.index_cells.specs.Keys.{AreOfBoth}
use Rattle.index_cells.specs.Named.{by_symbols, named}
use Rattle.index_cells.specs.Rowed.{rowed_all, rowed_off}
use Rattle.index_cells.specs.Staying.{no_name_goes}
use Rattle.index_cells.specs.declared.changes.ChangedKept.{ChangedKept}
use Rattle.index_cells.specs.declared.kept.Kept.{Kept}

-- its rows were prepared for those that are kept
pub record IsFor (changed : ChangedKept) (kept : Kept) : Type 0 where
  pub sums : changed.sums.before ≡ kept.sums

-- what is kept once it is put in
abbrev pub put_in : ChangedKept → Kept → Kept
put_in changed kept = record {
  sums = changed.sums.after;
  accounts = unwrap_or changed.accounts kept.accounts;
  symbols = unwrap_or changed.symbols kept.symbols;
}

-- what was prepared of takings that are gone and of others that are put in
pub record IsMadeOf (gone more : List Taken) (kept : Kept) (changed : ChangedKept) : Type 0 where
  pub sums : changed.sums ≡ record { before = kept.sums; after = kept.sums ++ (rowed_off gone ++ rowed_all more) }
  pub accounts : AreOfBoth kept.accounts (accounts_in (map named more)) (unwrap_or changed.accounts kept.accounts)
  pub symbols : AreOfBoth kept.symbols (accounts_in (by_symbols more)) (unwrap_or changed.symbols kept.symbols)
  pub still : changed.names_stay ≡ no_name_goes kept gone more
