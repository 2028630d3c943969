use Rattle.rule_entries.proofs.counting.posting_excess.Goals as goal

pub returns : goal.returns
returns c = c.excess_over.ensures
