use Rattle.std.proofs.Common.{Option, length, sym, ap, ◌∙◌}
use Rattle.book.specs.Postings.{postings_of}
use Rattle.rule_entries.specs.Counted.{excess_over, or_excess, posting_limit}
use Rattle.rule_entries.specs.Making.{made_of}
use Rattle.rule_entries.specs.declared.counting.Excess.{Excess}
use Rattle.rule_entries.proofs.counting.excess_in.Goals as goal

pub returns-in-Some : goal.returns-in-Some
returns-in-Some c =
    ap (λ (o : Option Excess). or_excess o (excess_over posting_limit (length (postings_of (made_of c.args.window c.args.items.now))))) c.in-Some.ensures

pub returns-in-None : goal.returns-in-None
returns-in-None c =
    let postings = length (postings_of (made_of c.args.window c.args.items.now)) in
    c.posting_excess.ensures postings c.posting_count.ensures
    ∙ ap (λ (o : Option Excess). or_excess o (excess_over posting_limit postings)) (sym c.in-None.is ∙ c.txn_excess.ensures)
