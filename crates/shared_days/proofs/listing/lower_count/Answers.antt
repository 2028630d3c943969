use Rattle.std.proofs.Common.{◌≡◌, ◌+◌, ◌<◌, ◌≤◌, suc, length, drop, sym, ap, ◌∙◌, arith}
use Rattle.std.proofs.lemmas.List.{drop_all}
use Rattle.shared_days.specs.Places.{lower_count}
use Rattle.shared_days.proofs.Fronts.{lower-end, lower-more}
use Rattle.shared_days.proofs.listing.lower_count.Goals as goal

pub loop-at-init : goal.loop-at-init
loop-at-init c = record { within = omega arith; count = omega arith }

pub loop-at-preserved : goal.loop-at-preserved
loop-at-preserved c =
    let inside : c.loop-at.at < length c.args.places.now = omega arith in
    let more : lower_count c.args.number (drop c.loop-at.at c.args.places.now) ≡ suc (lower_count c.args.number (drop (c.loop-at.at + 1) c.args.places.now)) =
    lower-more c.args.number c.args.places.now c.loop-at.at _ inside (sym c.is_lower-lower.ensures ∙ c.if-not-lower.false) in
    record { within = omega arith; count = omega (arith, c.loop-at.invariant.count, more) }

pub returns-then-not-lower-clause-count : goal.returns-then-not-lower-clause-count
returns-then-not-lower-clause-count c =
    let inside : c.loop-at.at < length c.args.places.now = omega arith in
    let none : lower_count c.args.number (drop c.loop-at.at c.args.places.now) ≡ 0 =
    lower-end c.args.number c.args.places.now c.loop-at.at _ inside (sym c.is_lower-lower.ensures ∙ c.if-not-lower.true) in
    omega (arith, c.loop-at.invariant.count, none)

pub returns-clause-count : goal.returns-clause-count
returns-clause-count c =
    let past : length c.args.places.now ≤ c.loop-at.at = omega arith in
    let none : lower_count c.args.number (drop c.loop-at.at c.args.places.now) ≡ 0 = ap (lower_count c.args.number) (drop_all c.loop-at.at c.args.places.now past) in
    omega (arith, c.loop-at.invariant.count, none)
