use Rattle.std.proofs.Common.{◌≡◌, ◌≤◌, ◌+◌, take}
use Rattle.book.specs.SumsBefore.{OnlyAsked}
use Rattle.entry_check.specs.Asked.{AreTold, keys_of, sums_told, assigned_by}
use Rattle.entry_check.specs.Asking.{nodes_making}
use Rattle.entry_check.proofs.asked_once.ask_each.Given as goal

abbrev pub invariant-loop-posting : goal.invariant-loop-posting
invariant-loop-posting g l = record {
  told : AreTold (sums_told (g.S.Sums.txns l.sums) (g.S.Sums.place l.sums)) l.answers.items;
  keys : keys_of l.answers.items ≡ assigned_by (take l.posting-index l.postings);
  steps : OnlyAsked l.initial.steps l.steps;
  few : l.steps.nodes ≤ l.initial.steps.nodes + nodes_making (g.S.Sums.asks l.sums) (take l.posting-index l.postings);
}
