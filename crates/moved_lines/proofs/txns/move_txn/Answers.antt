use Rattle.std.proofs.Common.{List, map, sym, ap, subst, ◌∙◌}
use Rattle.std.specs.List.{AllByRecursion}
use Rattle.book.specs.declared.transaction.Posting.{Posting}
use Rattle.moved_lines.specs.Moving.{moved_posting, CanMovePosting}
use Rattle.moved_lines.proofs.txns.move_txn.Goals as goal

pub moved_postings-requires : goal.moved_postings-requires
moved_postings-requires c =
    subst (λ (ps : List Posting). AllByRecursion (CanMovePosting c.args.by) ps) (sym c.replace-postings.ensures.value) c.requires.postings

pub moved-txn-requires : goal.moved-txn-requires
moved-txn-requires c = c.requires.line

pub returns : goal.returns
returns c = λ i. record (c.args.txn.now) {
  line = c.moved-txn.ensures i;
  postings = (c.moved_postings.ensures ∙ ap (λ (ps : List Posting). map (moved_posting c.args.by) ps) c.replace-postings.ensures.value) i;
}
