use Rattle.std.proofs.Common.{◌<◌, List, length, sym, ap, ◌∙◌, arith}
use Rattle.std.specs.List.{list_any}
use Rattle.book.specs.declared.transaction.Txn.{Txn}
use Rattle.book_care.specs.Asked.{asked_of, entries_of, is_meant, means_of}
use Rattle.book_care.specs.Names.{has}
use Rattle.book_care.proofs.Loops.{entries_more}
use Rattle.book_care.proofs.Naming.{start_any}
use Rattle.book_care.proofs.named.named_accounts.Goals as goal

pub loop-txn-init : goal.loop-txn-init
loop-txn-init c = record {
  names = λ q.
      ap (λ (l : List Txn). list_any (means_of (asked_of c.args.closing.now) q) (entries_of l)) (sym c.as_slice-txn-items.ensures)
      ∙ start_any (list_any (means_of (asked_of c.args.closing.now) q) (entries_of c.as_slice-txn-items.result.now)) (has c.new-names.result q) (c.new-names.ensures q);
  serves = record { terms = c.in_ok-search.ensures.terms; known = c.in_ok-search.ensures.known };
}

pub loop-txn-preserved : goal.loop-txn-preserved
loop-txn-preserved c =
    let asked = asked_of c.args.closing.now in
    let within : c.loop-txn.txn-index < length c.as_slice-txn-items.result.now = omega arith in
    record {
      names = λ q. entries_more asked q (is_meant asked q) (has c.loop-txn.names q) (has c.note_all.new.names q) c.as_slice-txn-items.result.now c.loop-txn.txn-index c.txn-item.result (c.loop-txn.invariant.names q) within c.txn-item.is (c.in_ok-note_all.ensures.names q);
      serves = c.in_ok-note_all.ensures.serves;
    }
