use Rattle.std.proofs.Common.{◌≡◌, ◌≤◌, ◌+◌, [], true}
use Rattle.std.specs.List.{list_all}
use Rattle.book.specs.SumsBefore.{OnlyAsked}
use Rattle.assertions.specs.Kept.{IsBalance, is_asked}
use Rattle.entry_check.specs.Asking.{nodes_making}
use Rattle.entry_check.specs.Checked.{told_before, made_postings}
use Rattle.entry_check.proofs.make.make_all.Given as goal

abbrev pub invariant-loop-posting : goal.invariant-loop-posting
invariant-loop-posting g l = record {
  can : (goal.iterator-loop-posting g).can_next l.posting-iterator;
  finite : (goal.iterator-loop-posting g).is_finite l.posting-iterator;
  made : l.made.items ≡ made_postings (told_before (g.S.Sums.txns l.sums) (g.S.Sums.place l.sums)) [] l.yielded;
  here : IsBalance l.made.items l.here.own l.here.below;
  asked : list_all (is_asked l.here.own l.here.below) l.fn.postings ≡ true;
  steps : OnlyAsked l.initial.steps l.steps;
  few : l.steps.nodes ≤ l.initial.steps.nodes + nodes_making (g.S.Sums.asks l.sums) l.yielded;
}
