use Rattle.std.proofs.Common.{◌≡◌, ◌≤◌, ℕ, length, refl, subst, ◌∙◌, arith}
use Rattle.kept_turnover.specs.Keeping.{part_at}
use Rattle.kept_turnover.proofs.Placing.{IsSummed, summed_more, summed_none, summed_within}
use Rattle.kept_turnover.proofs.places.fit.Goals as goal

pub loop-part-init : goal.loop-part-init
loop-part-init c = summed_none c.args.parts.now

pub loop-part-preserved : goal.loop-part-preserved
loop-part-preserved c =
    let ps = c.args.parts.now in
    let i = c.loop-part.part-index in
    subst (λ (n : ℕ). IsSummed ps n c.behind-sum.result c.chosen-whole.result) (omega arith)
    (summed_more ps i c.loop-part.sum c.loop-part.whole c.behind-sum.result c.chosen-whole.result (part_at ps i) refl c.behind-sum.ensures c.chosen-whole.ensures c.loop-part.invariant)

pub returns : goal.returns
returns c =
    let ps = c.args.parts.now in
    let past : length ps ≤ c.loop-part.part-index = omega arith in
    let most : c.loop-part.part-index ≤ length ps = omega arith in
    let all : c.loop-part.part-index ≡ length ps = omega (arith, past, most) in
    c.is_within.ensures ∙ summed_within ps c.loop-part.sum c.loop-part.whole (subst (λ (n : ℕ). IsSummed ps n c.loop-part.sum c.loop-part.whole) all c.loop-part.invariant)
