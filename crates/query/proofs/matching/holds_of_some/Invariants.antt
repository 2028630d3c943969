use Rattle.std.proofs.Common.{◌≡◌, drop}
use Rattle.std.specs.List.{list_any}
use Rattle.query_terms.specs.Finders.{known_in}
use Rattle.query.specs.Matching.{under, kind_holds}
use Rattle.query.specs.OwnLetters.{own_in}
use Rattle.query.proofs.matching.holds_of_some.Given as goal

abbrev pub invariant-loop-posting : goal.invariant-loop-posting
invariant-loop-posting l = record {
  so_far : list_any (λ posting. under l.nots (kind_holds (known_in l.fn.finder) (own_in l.types) posting l.txn l.kind)) l.txn.postings
      ≡ list_any (λ posting. under l.nots (kind_holds (known_in l.fn.finder) (own_in l.types) posting l.txn l.kind)) (drop l.posting-index l.txn.postings);
  same : known_in l.finder ≡ known_in l.fn.finder;
}
