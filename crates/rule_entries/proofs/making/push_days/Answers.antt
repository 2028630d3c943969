use Rattle.std.proofs.Common.{◌≡◌, ℕ, ◌++◌, map, ap, ◌∙◌, arith}
use Rattle.std.specs.List.{range_with_len}
use Rattle.hl_time.specs.Units.{occurrence}
use Rattle.rule_entries.specs.Making.{txn_on}
use Rattle.rule_entries.proofs.Totals.{days_more}
use Rattle.rule_entries.proofs.making.push_days.Goals as goal

pub day_at-requires : goal.day_at-requires
day_at-requires c = record {
  start = c.requires.start;
  small = omega (arith, c.requires.few, c.count-at-end.ensures, c.loop-at-test.true);
  day = c.requires.each c.loop-at.at (omega (arith, c.count-at-end.ensures, c.loop-at-test.true));
}

pub loop-at-preserved : goal.loop-at-preserved
loop-at-preserved c =
    let occasions = c.args.occasions in
    c.in_ok-push.ensures.items
    ∙ days_more (txn_on c.args.rule.now) (occurrence occasions.start.0 occasions.interval) occasions.first c.loop-at.at c.day_at.result.0 c.in_ok-txn.txn
    c.args.txns.now.items c.loop-at.txns.items c.in_ok-txn.ensures c.day_at.ensures c.loop-at.invariant

pub returns : goal.returns
returns c =
    let occasions = c.args.occasions in
    let all : c.loop-at.at ≡ occasions.count = omega arith in
    c.loop-at.invariant
    ∙ ap (λ (n : ℕ). c.args.txns.now.items ++ map (txn_on c.args.rule.now) (map (occurrence occasions.start.0 occasions.interval) (range_with_len occasions.first n))) all
