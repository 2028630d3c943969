use Rattle.std.proofs.Common.{◌≡◌, take}
use Rattle.std.specs.List.{flat_map}
use Rattle.book.specs.declared.rules.RulePosting.{RulePosting}
use Rattle.book.specs.Standing.{noted_all, IsSameBut}
use Rattle.book.specs.Style.{rule_styles}
use Rattle.book.proofs.noting.note_auto.Given as goal

abbrev pub invariant-loop-posting : goal.invariant-loop-posting
invariant-loop-posting l = record {
  noted : l.table ≡ noted_all l.number l.initial.table (flat_map (λ (p : RulePosting). rule_styles p.posting) (take l.posting-index l.postings));
  others : IsSameBut l.number l.initial.table l.table;
}
