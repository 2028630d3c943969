use Rattle.std.proofs.Common.{◌≡◌, ◌+◌, ◌≤◌, true, length}
use Rattle.std.specs.Str.{is_utf8}
use Rattle.entry_reader.specs.Lines.{contents_of}
use Rattle.directive_reader.specs.Commodities.{format_in}
use Rattle.directive_reader.proofs.commodity.find_format.Given as goal

abbrev pub invariant-loop-rest : goal.invariant-loop-rest
invariant-loop-rest l = record {
  so_far : format_in l.context l.symbol l.next (contents_of l.rest) ≡ format_in l.context l.symbol l.fn.line (contents_of l.lines);
  room : l.next + length (contents_of l.rest) ≤ l.fn.line + length (contents_of l.lines);
  utf8 : is_utf8 l.rest ≡ true;
}

abbrev pub decreases-loop-rest : goal.decreases-loop-rest
decreases-loop-rest l = length l.rest
