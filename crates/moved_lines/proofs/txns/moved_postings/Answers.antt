use Rattle.std.proofs.Common.{List, map, sym, ap, subst, ◌∙◌}
use Rattle.std.specs.List.{AllByRecursion}
use Rattle.std.proofs.lemmas.List.{with_items_is}
use Rattle.book.specs.declared.transaction.Posting.{Posting}
use Rattle.moved_lines.specs.Moving.{moved_posting, CanMovePosting}
use Rattle.moved_lines.proofs.txns.moved_postings.Goals as goal

pub move_postings-requires : goal.move_postings-requires
move_postings-requires c =
    subst (λ (ps : List Posting). AllByRecursion (CanMovePosting c.args.by) ps) (sym (c.deref_mut.ensures.value ∙ c.into_vec-postings.ensures)) c.requires

pub returns : goal.returns
returns c =
    c.from_vec.ensures ∙ with_items_is c.into_vec-postings.result c.move_postings.new.postings (c.move_postings.auto.postings ∙ c.deref_mut.ensures.len)
    ∙ c.move_postings.ensures ∙ ap (λ (ps : List Posting). map (moved_posting c.args.by) ps) (c.deref_mut.ensures.value ∙ c.into_vec-postings.ensures)
