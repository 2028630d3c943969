use Rattle.std.proofs.Common.{◌≡◌, ◌≤◌, ◌+◌, List, filter, take, true}
use Rattle.std.specs.List.{list_all}
use Rattle.book.specs.SumsBefore.{OnlyAsked}
use Rattle.book.specs.declared.transaction.Posting.{Posting}
use Rattle.balancing.specs.Parts.{is_in}
use Rattle.assertions.specs.Kept.{IsBalance, is_asked}
use Rattle.entry_check.specs.Asking.{nodes_asked}
use Rattle.entry_check.specs.Checked.{told_before, others_before}
use Rattle.entry_check.specs.Failing.{IsPast}
use Rattle.entry_check.proofs.failure.judge_part.Given as goal

abbrev pub invariant-loop-posting : goal.invariant-loop-posting
invariant-loop-posting g l = record {
  past : (done : List Posting) → IsBalance done l.initial.here.own l.initial.here.below
      → list_all (is_asked l.initial.here.own l.initial.here.below) l.postings ≡ true
      → IsPast (told_before (g.S.Sums.txns l.sums) (g.S.Sums.place l.sums)) (others_before (g.S.Sums.txns l.sums) (g.S.Sums.place l.sums)) done
      (is_in l.part) l.postings l.posting-index l.here.own l.here.below;
  own : l.here.own.1 ≡ l.initial.here.own.1;
  below : l.here.below.1 ≡ l.initial.here.below.1;
  steps : OnlyAsked l.initial.steps l.steps;
  few : l.steps.nodes ≤ l.initial.steps.nodes + nodes_asked (g.S.Sums.asks l.sums) (g.S.Sums.asks_other l.sums) (filter (is_in l.part) (take l.posting-index l.postings));
}
