use Rattle.std.proofs.Common.{◌≡◌, List, true}
use Rattle.std.specs.List.{list_all}
use Rattle.book.specs.declared.transaction.Posting.{Posting}
use Rattle.balancing.specs.Assigned.{given_postings_by}
use Rattle.balancing.specs.Entering.{entering}
use Rattle.assertions.specs.Kept.{IsBalance, is_asked}
use Rattle.balancing.proofs.assign.assign.Given as goal

abbrev pub invariant-loop-posting : goal.invariant-loop-posting
invariant-loop-posting l = record {
  can : (goal.iterator-loop-posting).can_next l.posting-iterator;
  finite : (goal.iterator-loop-posting).is_finite l.posting-iterator;
  given : (seen : List Posting) → IsBalance seen l.balances.own l.balances.below → list_all (is_asked l.balances.own l.balances.below) l.fn.postings ≡ true
      → (l.given.items ≡ given_postings_by (entering l.form) seen l.yielded) × IsBalance l.given.items l.here.own l.here.below;
  asked : list_all (is_asked l.here.own l.here.below) l.fn.postings ≡ true;
}
