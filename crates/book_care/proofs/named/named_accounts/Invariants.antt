use Rattle.std.proofs.Common.{◌≡◌, ℕ, ◌||◌, List, drop}
use Rattle.std.specs.List.{list_any}
use Rattle.book_care.specs.Asked.{asked_of, entries_of, is_meant, means_of, Serves}
use Rattle.book_care.specs.Names.{has}
use Rattle.book_care.proofs.named.named_accounts.Given as goal

abbrev pub invariant-loop-txn : goal.invariant-loop-txn
invariant-loop-txn l = record {
  names : (q : List ℕ) → is_meant (asked_of l.closing) q ≡ (list_any (means_of (asked_of l.closing) q) (entries_of (drop l.txn-index l.txn-items)) || has l.names q);
  serves : Serves l.search l.closing.query.now;
}
