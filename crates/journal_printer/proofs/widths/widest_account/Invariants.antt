use Rattle.std.proofs.Common.{◌≡◌, max, map, drop}
use Rattle.journal_printer.specs.Columns.{widest}
use Rattle.journal_printer.specs.Layout.{Fields}
use Rattle.journal_printer.proofs.widths.widest_account.Given as goal

abbrev pub invariant-loop-posting : goal.invariant-loop-posting
invariant-loop-posting l =
    max l.columns (widest (map (λ (f : Fields). f.account) (drop l.posting-index l.fields))) ≡ widest (map (λ (f : Fields). f.account) l.fields)
