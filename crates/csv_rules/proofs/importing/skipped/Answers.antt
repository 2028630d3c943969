use Rattle.std.proofs.Common.{◌≡◌, ◌+◌, ℕ, min, length, drop, ap, ◌∙◌, arith}
use Rattle.csv_rules.specs.Importing.{before_day, on_day}
use Rattle.csv_rules.proofs.NewOnes.{skipped-within, skipped-is}
use Rattle.csv_rules.proofs.importing.skipped.Goals as goal

pub returns-clause-new : goal.returns-clause-new
returns-clause-new c =
    let ts = c.args.txns.now in
    let all = skipped-within c.args.day ts in
    let one = c.count_before-before.ensures in
    let two = c.count_on-on.ensures.count in
    let start : c.min-2.result ≡ length (before_day c.args.day ts) + min (length (on_day c.args.day ts)) c.args.count = omega (arith, all, one, two, c.min.ensures, c.min-2.ensures, c.saturating_add-start.ensures, c.min-2.type_inv) in
    ap (λ (n : ℕ). drop n ts) start ∙ skipped-is c.args.day c.args.count ts c.requires
