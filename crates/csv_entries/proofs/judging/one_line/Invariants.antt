use Rattle.std.proofs.Common.{◌≡◌, ◌++◌, true, length}
use Rattle.std.specs.Str.{is_utf8}
use Rattle.std.specs.String.{string_bytes}
use Rattle.csv_entries.specs.Judging.{one_line}
use Rattle.csv_entries.proofs.judging.one_line.Given as goal

abbrev pub invariant-loop-line : goal.invariant-loop-line
invariant-loop-line l = record {
  so_far : one_line l.fn.text ≡ string_bytes l.line ++ one_line l.rest;
  utf8 : is_utf8 l.rest ≡ true;
}

abbrev pub decreases-loop-line : goal.decreases-loop-line
decreases-loop-line l = length l.rest
