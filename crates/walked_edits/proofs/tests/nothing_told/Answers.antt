use Rattle.std.proofs.Common.{List, [], refl, sym, subst, ◌∙◌}
use Rattle.book.specs.declared.transaction.Txn.{Txn}
use Rattle.balancing.specs.Solves.{Solves}
use Rattle.walked_edits.specs.Keeping.{IsKept}
use Rattle.walked_edits.proofs.tests.nothing_told.Goals as goal

solves_none : Solves [] []
solves_none = record {
  unmarked = refl;
  allowed = refl;
  made = [];
  kept = tt;
  balanced = tt;
  found = refl;
  assigned = tt;
  asserted = tt;
  fits = refl;
}

pub none_kept-requires : goal.none_kept-requires
none_kept-requires c = c.as_slice.ensures.value ∙ c.new-book.ensures.items

pub returns-clause-none : goal.returns-clause-none
returns-clause-none c = c.new-book.ensures.items

pub returns-clause-solves : goal.returns-clause-solves
returns-clause-solves c =
    subst (λ (text : List Txn). Solves text c.new-book.result.items) (sym c.new-text.ensures.items)
    (subst (λ (book : List Txn). Solves [] book) (sym c.new-book.ensures.items) solves_none)

pub returns-clause-kept : goal.returns-clause-kept
returns-clause-kept c = subst (λ (book : List Txn). IsKept book c.in_ok-kept.kept) c.as_slice.ensures.value c.in_ok-kept.ensures
