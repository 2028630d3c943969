use Rattle.std.proofs.Common.{subst}
use Rattle.index_cells.specs.Shown.{Shows}
use Rattle.report_cells.specs.declared.reach.Reach.{Reach}
use Rattle.report_takings.specs.Asking.{question_of}
use Rattle.report_takings.specs.Takings.{takings_of}
use Rattle.kept_reports.proofs.Summing.{plain_so}
use Rattle.kept_reports.proofs.cells.cells_by.Goals as goal

pub plain_cells-requires-clause-plain : goal.plain_cells-requires-clause-plain
plain_cells-requires-clause-plain g c = plain_so c.args.scope.now c.requires.bare c.requires.served

pub returns-clause-made : goal.returns-clause-made
returns-clause-made g c =
    subst (λ (reach : Reach). Shows c.args.columns reach (takings_of (question_of c.args.scope.now) c.args.columns) c.plain_cells.result) c.reach_of-reach.ensures
    c.plain_cells.ensures.made
