use Rattle.std.proofs.Common.{◌≡◌, ℕ, inl, inr, sym, subst, arith}
use Rattle.std.proofs.lemmas.Bool.{cases_lt}
use Rattle.live_index.specs.Series.{GoesOnAt}
use Rattle.live_index.proofs.SeriesLaws.{lent}
use Rattle.live_index.proofs.series.break_from.Goals as goal

pub loop-at-preserved : goal.loop-at-preserved
loop-at-preserved c = λ k from upto.
    elim (cases_lt k c.loop-at.at) [
      | inl lt ↦ c.loop-at.invariant k from lt
      | inr ge ↦
          let here : c.loop-at.at ≡ k = omega arith in
          subst (λ (n : ℕ). GoesOnAt (lent c.args.rows.now) n) here c.if-breaks.ensures.goes_on
    ]

pub returns-then-breaks-clause-some : goal.returns-then-breaks-clause-some
returns-then-breaks-clause-some c = λ _. c.if-breaks.ensures.inside.0

pub returns-clause-goes_on : goal.returns-clause-goes_on
returns-clause-goes_on c = λ k from upto. c.loop-at.invariant k from (omega arith)
