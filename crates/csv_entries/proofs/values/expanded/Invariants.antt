use Rattle.std.proofs.Common.{◌≡◌, ◌++◌, true, length}
use Rattle.std.specs.Str.{is_utf8}
use Rattle.std.specs.String.{string_bytes}
use Rattle.csv_entries.specs.Values.{expanded}
use Rattle.csv_entries.proofs.Pieces.{rest_text}
use Rattle.csv_entries.proofs.values.expanded.Given as goal

abbrev pub invariant-loop-rest : goal.invariant-loop-rest
invariant-loop-rest l = record {
  so_far : expanded l.names l.columns l.fn.written ≡ string_bytes l.text ++ rest_text l.names l.columns l.rest;
  utf8 : is_utf8 l.rest ≡ true;
}

abbrev pub decreases-loop-rest : goal.decreases-loop-rest
decreases-loop-rest l = length l.rest
