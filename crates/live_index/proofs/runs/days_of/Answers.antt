use Rattle.std.proofs.Common.{◌≡◌, List, [], ◌++◌, ℤ, pos, ◌+◌, ◌+ℤ◌, cond, FitsSigned, drop, refl, subst, sym, ap, ◌∙◌, rules, arith}
use Rattle.std.proofs.lemmas.Int.{to_z-of_z, wraps}
use Rattle.std.specs.Int.{int_wrap}
use Rattle.hl_time.specs.declared.day.Day.{Day}
use Rattle.live_index.specs.declared.row.Row.{Row}
use Rattle.live_index.specs.declared.runs.Run.{Run}
use Rattle.live_index.specs.Runs.{AreRuns, changed}
use Rattle.live_index.specs.Series.{AreDaysOf}
use Rattle.live_index.proofs.SeriesLaws.{lent, days_from, row-more, all-done, days-kept, days-are}
use Rattle.live_index.proofs.runs.days_of.Goals as goal
use mir.Val.{SFits, to_z, of_z}
use mir.Syntax.{w128}

pub loop-at-preserved : goal.loop-at-preserved
loop-at-preserved c =
    let rows = c.args.rows.now in
    let e : ℤ = c.in_ok-earlier.earlier in
    let s : ℤ = c.wrapped_sum-sum.result in
    let m : ℤ = c.index-rows-at.result.now.value.mantissa in
    let was : ℤ = to_z w128 c.loop-at.earlier-bits in
    let shown : ℤ = to_z w128 (of_z w128 c.wrapped_sum-sum.result) in
    let fits : SFits w128 c.wrapped_sum-sum.result = record { sfits = c.wrapped_sum-sum.type_inv } in
    let earlier_fits : FitsSigned w128 c.in_ok-earlier.earlier = search rules in
    let same : to_z w128 (of_z w128 c.wrapped_sum-sum.result) ≡ c.wrapped_sum-sum.result = to_z-of_z w128 c.wrapped_sum-sum.result fits in
    let same_earlier : to_z w128 (of_z w128 c.in_ok-earlier.earlier) ≡ c.in_ok-earlier.earlier = to_z-of_z w128 c.in_ok-earlier.earlier earlier_fits in
    let added : c.wrapped_sum-sum.result ≡ int_wrap w128 (c.loop-at.sum +ℤ c.index-rows-at.result.now.value.mantissa) = first_of (search rules, search (rules, wraps), grind (arith, to_z-of_z)) in
    let summed : c.wrapped_sum-sum.result ≡ int_wrap w128 (to_z w128 c.loop-at.sum-bits +ℤ c.index-rows-at.result.now.value.mantissa) = added ∙ ap (λ (z : ℤ). int_wrap w128 (z +ℤ m)) (sym c.loop-at.sum-is) in
    let day : c.row.inside.0.1.1.0 ≡ c.index-rows-at.result.now.day = ap (λ (r : Row). r.day) c.row.view_is in
    let Q : Day → Type 0 = λ d. c.push_last.new.runs.items ≡ c.loop-at.runs.items ++ cond c.ends_day-ends.result (changed was (record { day = d; sum = shown }) []) [] in
    let put : Q c.index-rows-at.result.now.day = subst Q day c.in_ok-earlier.ensures.put in
    let P : ℤ → ℤ → Type 0 = λ l n. c.push_last.new.runs.items ++ days_from l n (lent (drop (c.loop-at.at + 1) rows)) ≡ days_from (pos 0) (pos 0) (lent rows) in
    let plain : P e s =
    row-more rows c.loop-at.at c.index-rows-at.result c.ends_day-ends.result was (to_z w128 c.loop-at.sum-bits) s e was shown c.loop-at.runs.items c.push_last.new.runs.items (days_from (pos 0) (pos 0) (lent rows)) (omega arith) c.index-rows-at.is c.ends_day-ends.ensures summed
    refl same c.in_ok-earlier.ensures.sum put c.loop-at.invariant in
    let half : P (to_z w128 (of_z w128 c.in_ok-earlier.earlier)) s = subst (λ (l : ℤ). P l s) (sym same_earlier) plain in
    subst (λ (n : ℤ). P (to_z w128 (of_z w128 c.in_ok-earlier.earlier)) n) (sym same) half

pub returns-clause-sums : goal.returns-clause-sums
returns-clause-sums c =
    let rows = c.args.rows.now in
    let all : c.loop-at.runs.items ≡ days_from (pos 0) (pos 0) (lent c.args.rows.now) = all-done rows c.loop-at.at (to_z w128 c.loop-at.earlier-bits) (to_z w128 c.loop-at.sum-bits) c.loop-at.runs.items _ (omega arith) c.loop-at.invariant in
    let P : List Run → Type 0 = λ runs. AreDaysOf (lent c.args.rows.now) runs in
    subst P (sym all) (days-are (lent rows) c.requires)

pub returns-clause-kept : goal.returns-clause-kept
returns-clause-kept c =
    let rows = c.args.rows.now in
    let all : c.loop-at.runs.items ≡ days_from (pos 0) (pos 0) (lent c.args.rows.now) = all-done rows c.loop-at.at (to_z w128 c.loop-at.earlier-bits) (to_z w128 c.loop-at.sum-bits) c.loop-at.runs.items _ (omega arith) c.loop-at.invariant in
    let P : List Run → Type 0 = λ runs. AreRuns runs in
    subst P (sym all) (days-kept (lent rows) c.requires)
