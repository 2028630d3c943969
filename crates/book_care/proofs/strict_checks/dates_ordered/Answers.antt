use Rattle.std.proofs.Common.{◌≡◌, ℕ, ◌+◌, ◌-◌, ◌<◌, length, drop, ap, ◌∙◌, arith}
use Rattle.book_care.specs.Breaks.{first_early}
use Rattle.book_care.proofs.Neighbours.{early_more}
use Rattle.book_care.proofs.strict_checks.dates_ordered.Goals as goal

pub loop-at-preserved : goal.loop-at-preserved
loop-at-preserved c =
    let within : c.loop-at.at < length c.args.txns.now = omega arith in
    let next : c.loop-at.at ≡ c.loop-at.at + 1 - 1 = omega arith in
    c.loop-at.invariant
    ∙ early_more c.args.txns.now c.loop-at.at c.index-txns-before.result c.index-txns-at.result c.loop-at.auto.at within c.index-txns-before.is c.index-txns-at.is c.in_ok-is_after.ensures.holds
    ∙ ap (λ (n : ℕ). first_early (drop n c.args.txns.now)) next
