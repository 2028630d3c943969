use Rattle.std.proofs.Common.{◌≡◌, ◌++◌, true, length}
use Rattle.std.specs.Str.{is_utf8}
use Rattle.csv_rules.specs.References.{references_in}
use Rattle.csv_rules.proofs.ReferenceLaws.{left_in}
use Rattle.csv_rules.proofs.references.push_text.Given as goal

abbrev pub invariant-loop-rest : goal.invariant-loop-rest
invariant-loop-rest l = record {
  so_far : l.fn.references.items ++ references_in l.line l.fn.text ≡ l.references.items ++ left_in l.line l.rest;
  utf8 : is_utf8 l.rest ≡ true;
}

abbrev pub decreases-loop-rest : goal.decreases-loop-rest
decreases-loop-rest l = length l.rest
