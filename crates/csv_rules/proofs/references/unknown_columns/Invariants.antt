use Rattle.std.proofs.Common.{◌≡◌, ◌+◌, ◌++◌, ◌≤◌, length}
use Rattle.entry_reader.specs.Lines.{contents_of}
use Rattle.csv_rules.specs.Drafts.{progress_of}
use Rattle.csv_rules.specs.References.{references_from, references_of}
use Rattle.csv_rules.proofs.Progresses.{IsReached}
use Rattle.csv_rules.proofs.references.unknown_columns.Given as goal

abbrev pub invariant-loop-rest : goal.invariant-loop-rest
invariant-loop-rest l = record {
  reached : IsReached l.text l.rest l.line (progress_of l.draft);
  so_far : references_of l.text ≡ l.references.items ++ references_from (progress_of l.draft) l.line (contents_of l.rest);
  room : l.line + length l.rest ≤ length l.text + 1;
}

abbrev pub decreases-loop-rest : goal.decreases-loop-rest
decreases-loop-rest l = length l.rest
