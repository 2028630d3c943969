use Rattle.std.proofs.Common.{◌≡◌}
use Rattle.std.specs.List.{list_all}
use Rattle.kept_turnover.specs.Keeping.{is_fit}
use Rattle.kept_turnover.proofs.Fitting.{all_fits}
use Rattle.kept_turnover.proofs.postings.all_fit.Given as goal

abbrev pub invariant-loop-parts : goal.invariant-loop-parts
invariant-loop-parts l = all_fits l.symbols.entries ≡ all_fits l.parts-iterator
