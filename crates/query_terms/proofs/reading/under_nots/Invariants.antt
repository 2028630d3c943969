use Rattle.std.proofs.Common.{◌≡◌, ◌+◌, ◌≤◌, true, length}
use Rattle.std.specs.Str.{is_utf8}
use Rattle.query_terms.specs.Reading.{nots_of, bare}
use Rattle.query_terms.proofs.reading.under_nots.Given as goal

abbrev pub invariant-loop-nots : goal.invariant-loop-nots
invariant-loop-nots l = record {
  nots : l.nots + nots_of l.rest ≡ nots_of l.word;
  bare : bare l.rest ≡ bare l.word;
  utf8 : is_utf8 l.word ≡ true → is_utf8 l.rest ≡ true;
  few : l.nots + length l.rest ≤ length l.word;
}

abbrev pub decreases-loop-nots : goal.decreases-loop-nots
decreases-loop-nots l = length l.rest
