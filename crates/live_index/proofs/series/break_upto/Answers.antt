use Rattle.std.proofs.Common.{◌≡◌, ℕ, inl, inr, sym, subst, arith}
use Rattle.std.proofs.lemmas.Bool.{cases_lt}
use Rattle.live_index.specs.Series.{GoesOnAt}
use Rattle.live_index.proofs.SeriesLaws.{lent}
use Rattle.live_index.proofs.series.break_upto.Goals as goal

pub loop-at-preserved : goal.loop-at-preserved
loop-at-preserved c = record {
  within = omega arith;
  goes_on = λ k above le.
      elim (cases_lt c.loop-at.at k) [
        | inl lt ↦ c.loop-at.invariant.goes_on k lt le
        | inr ge ↦
            let here : c.loop-at.at ≡ k = omega arith in
            subst (λ (n : ℕ). GoesOnAt (lent c.args.rows.now) n) here c.if-breaks.ensures.goes_on
      ];
}

pub returns-clause-goes_on : goal.returns-clause-goes_on
returns-clause-goes_on c = λ k above le. c.loop-at.invariant.goes_on k (omega arith) le
