use Rattle.std.proofs.Common.{List, map, sym, ap, subst, ◌∙◌}
use Rattle.std.specs.List.{AllByRecursion}
use Rattle.std.proofs.lemmas.List.{with_items_is}
use Rattle.book.specs.declared.rules.RulePosting.{RulePosting}
use Rattle.moved_lines.specs.Moving.{moved_rule_posting, CanMoveRulePosting}
use Rattle.moved_lines.proofs.items.moved_rule_postings.Goals as goal

pub move_rule_postings-requires : goal.move_rule_postings-requires
move_rule_postings-requires c =
    subst (λ (ps : List RulePosting). AllByRecursion (CanMoveRulePosting c.args.by) ps) (sym (c.deref_mut.ensures.value ∙ c.into_vec-postings.ensures)) c.requires

pub returns : goal.returns
returns c =
    c.from_vec.ensures ∙ with_items_is c.into_vec-postings.result c.move_rule_postings.new.postings (c.move_rule_postings.auto.postings ∙ c.deref_mut.ensures.len)
    ∙ c.move_rule_postings.ensures ∙ ap (λ (ps : List RulePosting). map (moved_rule_posting c.args.by) ps) (c.deref_mut.ensures.value ∙ c.into_vec-postings.ensures)
