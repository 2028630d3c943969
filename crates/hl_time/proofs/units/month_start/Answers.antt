use Rattle.std.proofs.Common.{◌≡◌, ◌≤◌, ap, ◌∙◌, arith}
use Rattle.std.proofs.lemmas.Bool.Decides.{nat_tests}
use Rattle.hl_time.specs.Units.{month_start}
use Rattle.hl_time.proofs.UnitLaws.{month_start_mono, month_after_all}
use Rattle.hl_time.proofs.units.month_start.Goals as goal

pub returns-then-months-gt-ALL_MONTHS : goal.returns-then-months-gt-ALL_MONTHS
returns-then-months-gt-ALL_MONTHS c =
    let past : 3_652_061 ≤ month_start c.args.months = omega (arith, month_start_mono 119_988 c.args.months (omega arith), month_after_all) in
    grind (arith, nat_tests, past)

pub returns-then-months-eq-ALL_MONTHS : goal.returns-then-months-eq-ALL_MONTHS
returns-then-months-eq-ALL_MONTHS c =
    let all : c.args.months ≡ 119_988 = omega arith in
    let end : month_start c.args.months ≡ 3_652_060 = ap month_start all ∙ month_after_all in
    rw end
