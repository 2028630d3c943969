use Rattle.std.proofs.Common.{◌≡◌, drop}
use Rattle.query.specs.Building.{AreDated}
use Rattle.query_terms.specs.Reading.{terms_of}
use Rattle.query.proofs.Built.{behind}
use Rattle.query.proofs.building.read_terms.Given as goal

abbrev pub invariant-loop-word : goal.invariant-loop-word
invariant-loop-word l = record {
  read : terms_of l.day.0 l.words ≡ behind l.terms.items (terms_of l.day.0 (drop l.word-index l.words));
  days : AreDated l.terms.items;
}
