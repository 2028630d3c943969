use Rattle.std.proofs.Common.{◌≡◌, ℕ, List, ◌++◌, map, OnOk, subst}
use Rattle.rule_entries.specs.Making.{txn_on}
use Rattle.rule_entries.proofs.making.push_rule.Goals as goal

pub returns : goal.returns
returns c =
    subst (λ (days : List ℕ). OnOk c.push_days.result (c.push_days.new.txns.items ≡ c.args.txns.now.items ++ map (txn_on c.args.rule.now) days))
    c.occasions_in.ensures.seen c.push_days.ensures
