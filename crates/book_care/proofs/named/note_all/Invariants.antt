use Rattle.std.proofs.Common.{◌≡◌, ℕ, ◌||◌, List, drop, map}
use Rattle.std.specs.List.{list_any}
use Rattle.book_care.specs.Asked.{asked_of, means_of, Serves}
use Rattle.book_care.specs.Names.{has}
use Rattle.book_care.proofs.named.note_all.Given as goal

abbrev pub invariant-loop-posting : goal.invariant-loop-posting
invariant-loop-posting l = record {
  names : (q : List ℕ) → (list_any (means_of (asked_of l.closing) q) (map (λ p. (p, l.txn)) l.txn.postings) || has l.fn.names q) ≡ (list_any (means_of (asked_of l.closing) q) (map (λ p. (p, l.txn)) (drop l.posting-index l.posting-items)) || has l.names q);
  serves : Serves l.search l.closing.query.now;
}
