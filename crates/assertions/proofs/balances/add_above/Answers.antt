use Rattle.std.proofs.Common.{◌≡◌, ℕ, ◌≤◌, ◌+◌, List, [], ◌∷◌, ◌++◌, length, take, sym, ap, ◌∙◌, subst, arith}
use Rattle.entry_balance.specs.Values.{Value}
use Rattle.entry_balance.specs.Tally.{turnover_fits}
use Rattle.entry_balance.proofs.Adding.{on_ok, if_err}
use Rattle.assertions.specs.Kept.{Keeping, IsKept, and_above, and_at}
use Rattle.assertions.proofs.Keeping.{kept_same}
use Rattle.assertions.proofs.Under.{above-colon, above-other, above-all, above-past, part-under, part-length, under-itself}
use Rattle.assertions.proofs.balances.add_above.Goals as goal
use Rattle.assertions.proofs.balances.add_above.Goals.{then-account-at-eq58+in-Ok, else-account-at-eq58}

pub loop-at-preserved : goal.loop-at-preserved
loop-at-preserved c =
    let name = c.args.account.now in
    let v : Value = (c.args.symbol.now, c.args.value) in
    let n = c.loop-at.at in
    record {
      kept = λ values h. elim c.if-account-at-eq58.branch [
        | then-account-at-eq58+in-Ok w ↦
            subst (IsKept (and_above (n + 1) values name v)) (sym w.below-is)
            (kept_same _ _ _ (λ root. above-colon values name v root n c.loop-at-test.true w.if-account-at-eq58.true) (w.in-Ok.ensures.ok (and_above n values name v) (c.loop-at.invariant.kept values h)))
        | else-account-at-eq58 w ↦
            subst (IsKept (and_above (n + 1) values name v)) (sym w.below-is)
            (kept_same _ _ _ (λ root. above-other values name v root n c.loop-at-test.true w.if-account-at-eq58.false) (c.loop-at.invariant.kept values h))
      ];
      places = elim c.if-account-at-eq58.branch [
        | then-account-at-eq58+in-Ok w ↦ ap (λ (k : Keeping). k.1) w.below-is ∙ w.in-Ok.ensures.places ∙ c.loop-at.invariant.places
        | else-account-at-eq58 w ↦ ap (λ (k : Keeping). k.1) w.below-is ∙ c.loop-at.invariant.places
      ];
    }

pub returns-in-Err-clause-range : goal.returns-in-Err-clause-range
returns-in-Err-clause-range c = λ is values h.
    let name = c.args.account.now in
    let v : Value = (c.args.symbol.now, c.args.value) in
    let n = c.loop-at.at in
    let root = take n name in (
      root,
      part-under name n c.loop-at-test.true c.if-account-at-eq58.true,
      ap (λ (vs : List Value). turnover_fits (vs ++ v ∷ [])) (sym (above-past values name v root n (let cut = part-length name n c.loop-at-test.true in omega (arith, cut))))
          ∙ c.in-Err.ensures.range is (and_above n values name v) (c.loop-at.invariant.kept values h),
    )

pub returns-clause-ok : goal.returns-clause-ok
returns-clause-ok c = on_ok c.add-2.result (λ ok values h.
    let name = c.args.account.now in
    let v : Value = (c.args.symbol.now, c.args.value) in
    let all : c.loop-at.at ≡ length name = omega arith in
    kept_same _ _ _ (λ root. ap (λ (n : ℕ). and_at (and_above n values name v) name v root) all ∙ above-all values name v root) (ok (and_above c.loop-at.at values name v) (c.loop-at.invariant.kept values h)))
    c.add-2.ensures.ok

pub returns-clause-range : goal.returns-clause-range
returns-clause-range c = if_err _ _ c.add-2.result (λ e told is values h.
    let name = c.args.account.now in
    let v : Value = (c.args.symbol.now, c.args.value) in
    let all : c.loop-at.at ≤ length name = omega arith in (
      name,
      under-itself name,
      ap (λ (vs : List Value). turnover_fits (vs ++ v ∷ [])) (sym (above-past values name v name c.loop-at.at all))
          ∙ told is (and_above c.loop-at.at values name v) (c.loop-at.invariant.kept values h),
    ))
    c.add-2.ensures.range
