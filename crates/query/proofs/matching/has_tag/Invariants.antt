use Rattle.std.proofs.Common.{◌≡◌, drop}
use Rattle.std.specs.List.{list_any}
use Rattle.query_terms.specs.Finders.{known_in}
use Rattle.query.specs.Matching.{tag_matches}
use Rattle.query.proofs.matching.has_tag.Given as goal

abbrev pub invariant-loop-tag : goal.invariant-loop-tag
invariant-loop-tag l = record {
  so_far : list_any (tag_matches (known_in l.fn.finder) l.name l.value) l.tags ≡ list_any (tag_matches (known_in l.fn.finder) l.name l.value) (drop l.tag-index l.tags);
  same : known_in l.finder ≡ known_in l.fn.finder;
}
