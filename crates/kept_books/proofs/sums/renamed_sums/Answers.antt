use Rattle.std.proofs.Common.{List, sym, subst}
use Rattle.book.specs.declared.transaction.Txn.{Txn}
use Rattle.index_cells.specs.Changed.{IsFor}
use Rattle.index_cells.specs.Exchange.{CanChange}
use Rattle.index_cells.specs.Names.{NamesOf}
use Rattle.index_cells.specs.Posted.{posted_in}
use Rattle.index_cells.specs.declared.kept.Kept.{Kept}
use Rattle.kept_books.proofs.sums.renamed_sums.Goals as goal

pub prepare-requires : goal.prepare-requires
prepare-requires c =
    record { room = subst (λ (k : Kept). (before : List Txn) × ((after : List Txn) × CanChange k before c.args.gone.now c.args.more.now after)) (sym c.in_ok-sums.ensures) c.requires }

pub put-requires : goal.put-requires
put-requires c = subst (IsFor c.in_ok-changed.changed) (sym c.prepare.ensures.stays) c.in_ok-changed.ensures.made

pub returns : goal.returns
returns c = λ before after can names.
    let was = subst (λ (k : Kept). CanChange k before c.args.gone.now c.args.more.now after) (sym c.in_ok-sums.ensures) can in
    let keeps = c.in_ok-changed.ensures.keeps before after was in
    let named = c.in_ok-changed.ensures.names before after was c.if-not-stay.false (subst (NamesOf (posted_in before)) (sym c.in_ok-sums.ensures) names) in
    rw (c.put.ensures, c.prepare.ensures.stays) (record { keeps = keeps; names = named })
