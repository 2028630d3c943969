use Rattle.std.proofs.Common.{List, map, sym, ap, subst, ◌∙◌}
use Rattle.std.specs.List.{AllByRecursion}
use Rattle.book.specs.declared.rules.RulePosting.{RulePosting}
use Rattle.moved_lines.specs.Moving.{moved_rule_posting, CanMoveRulePosting}
use Rattle.moved_lines.proofs.items.move_auto.Goals as goal

pub moved_rule_postings-requires : goal.moved_rule_postings-requires
moved_rule_postings-requires c =
    subst (λ (ps : List RulePosting). AllByRecursion (CanMoveRulePosting c.args.by) ps) (sym c.replace-postings.ensures.value) c.requires.postings

pub moved-rule-requires : goal.moved-rule-requires
moved-rule-requires c = c.requires.line

pub returns : goal.returns
returns c = λ i. record (c.args.rule.now) {
  line = c.moved-rule.ensures i;
  postings = (c.moved_rule_postings.ensures ∙ ap (λ (ps : List RulePosting). map (moved_rule_posting c.args.by) ps) c.replace-postings.ensures.value) i;
}
