-- The postings that an automated rule adds behind a matched one.
use Rattle.std.specs.Prelude.{false, None}
use Rattle.book.specs.declared.rules.RulePosting.{RulePosting}
use Rattle.book.specs.declared.transaction.Posting.{Posting}
use Rattle.rule_entries.specs.Accounts.{account_for}
use Rattle.rule_entries.specs.Amounts.{worth_of}
use Rattle.rule_entries.specs.declared.amounts.Worth.{Worth}

abbrev pub made_with : Posting → Posting → Worth → Posting
made_with written matched worth = record {
  line = written.line;
  mark = written.mark;
  side = written.side;
  account = account_for written.account matched.account;
  amount = worth.amount;
  cost = worth.cost;
  wanted = None;
  filled = false;
  costed = worth.costed;
  comment = written.comment;
  tags = written.tags;
  day = matched.day;
}

-- the posting that one of a rule makes beside a matched one, on its day
abbrev pub made_posting : Posting → RulePosting → Posting
made_posting matched rule = made_with rule.posting matched (worth_of rule matched)
