use Rattle.std.proofs.Common.{◌≡◌, [], take, true}
use Rattle.std.specs.List.{list_all}
use Rattle.assertions.specs.Kept.{IsBalance, Stays, is_asked}
use Rattle.assertions.proofs.balances.ask_each.Given as goal

abbrev pub invariant-loop-posting : goal.invariant-loop-posting
invariant-loop-posting l = record {
  fresh : IsBalance [] l.initial.balances.own l.initial.balances.below → IsBalance [] l.balances.own l.balances.below;
  asked : list_all (is_asked l.balances.own l.balances.below) (take l.posting-index l.postings) ≡ true;
  stays : Stays l.initial.balances.own l.initial.balances.below l.balances.own l.balances.below;
}
