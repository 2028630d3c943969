use Rattle.std.proofs.Common.{List, [], refl, sym, subst}
use Rattle.book.specs.Bounds.{TurnoverFits}
use Rattle.book.specs.Postings.{postings_of}
use Rattle.book.specs.declared.transaction.Txn.{Txn}
use Rattle.entry_balance.specs.Entry.{moved}
use Rattle.kept_turnover.specs.Keeping.{IsTurnover}
use Rattle.kept_turnover.proofs.Ranged.{ranged}
use Rattle.walked_edits.proofs.tests.none_kept.Goals as goal

pub index_of-requires : goal.index_of-requires
index_of-requires c = subst (λ (book : List Txn). TurnoverFits (postings_of book)) (sym c.requires) (ranged [] tt refl)

pub returns : goal.returns
returns c = record {
  stand = c.in_ok-index.ensures.stand;
  days = c.in_ok-days.ensures;
  turnover = subst (λ (book : List Txn). IsTurnover c.new.result (moved (postings_of book))) (sym c.requires) c.new.ensures;
}
