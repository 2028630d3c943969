use Rattle.std.proofs.Common.{◌≡◌, List, true}
use Rattle.std.specs.List.{list_all}
use Rattle.book.specs.declared.transaction.Posting.{Posting}
use Rattle.balancing.specs.Parts.{is_chosen}
use Rattle.assertions.specs.Kept.{IsBalance, is_asked}
use Rattle.balancing.specs.Claims.{IsReached}
use Rattle.balancing.proofs.claims.claim_part.Given as goal

abbrev pub invariant-loop-posting : goal.invariant-loop-posting
invariant-loop-posting l = record {
  reached : (seen : List Posting) → IsBalance seen l.initial.balances.own l.initial.balances.below
      → list_all (is_asked l.initial.balances.own l.initial.balances.below) l.txn.postings ≡ true
      → IsReached seen (is_chosen l.part l.day l.txn) l.txn.postings l.posting-index l.balances.own l.balances.below;
  own : l.balances.own.1 ≡ l.initial.balances.own.1;
  below : l.balances.below.1 ≡ l.initial.balances.below.1;
}
