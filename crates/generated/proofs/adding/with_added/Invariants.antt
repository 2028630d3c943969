use Rattle.std.proofs.Common.{◌≡◌, ◌∷◌, take}
use Rattle.std.specs.List.{flat_map}
use Rattle.query.specs.OwnLetters.{own_in}
use Rattle.generated.specs.Added.{added}
use Rattle.generated.specs.Asking.{AllAsk, all_asked}
use Rattle.generated.proofs.adding.with_added.Given as goal

abbrev pub invariant-loop-posting : goal.invariant-loop-posting
invariant-loop-posting l = record {
  added : l.postings.items ≡ flat_map (λ posting. posting ∷ added (own_in l.accounts.types.now) (all_asked l.fn.askers) l.txn posting) (take l.posting-index l.posting-items);
  ask : AllAsk l.fn.askers l.askers;
}
