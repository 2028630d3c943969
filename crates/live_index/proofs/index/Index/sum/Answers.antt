use Rattle.std.proofs.Common.{◌≡◌, ℕ, ℤ, pos, ◌+◌, ◌*◌, ◌^◌, ◌≤◌, ◌-ℤ◌, ◌+ℤ◌, List, filter, Bool, refl, ap, subst, ◌∙◌, sym, arith}
use Rattle.std.proofs.lemmas.Int.{to_z-of_z}
use Rattle.live_index.specs.Trees.{cells_of}
use Rattle.std.specs.Int.{int_wrap}
use Rattle.std.specs.Option.{option_copied}
use Rattle.std.specs.List.{AllByRecursion}
use Rattle.hl_num.specs.Decimal.{Decimal, IsInBounds, add_fits, units_of}
use Rattle.live_index.specs.declared.row.Row.{Row}
use Rattle.live_index.specs.declared.runs.Run.{Run}
use Rattle.live_index.specs.Rows.{total, TurnoverFits}
use Rattle.live_index.specs.Runs.{before}
use Rattle.live_index.specs.Cells.{Cell, sums_of, runs_in, told_by}
use Rattle.live_index.specs.Kept.{AreSums}
use Rattle.live_index.specs.Puts.{rows_put}
use Rattle.live_index.specs.Standing.{standing}
use Rattle.live_index.specs.Told.{IsSum}
use Rattle.live_index.proofs.KeptLaws.{mantissas, parts, part-is, part-bounds, part-added, part-skipped, can-add-part, no-part, all-parts}
use Rattle.live_index.proofs.StandingLaws.{standing-few}
use Rattle.live_index.proofs.index.Index.sum.Goals as goal
use Rattle.live_index.proofs.index.Index.sum.Goals.{then-mantissa-ne0, else-mantissa-ne0}
use mir.Val.{to_z, of_z}
use mir.Syntax.{w128}

-- what is told of a number of decimals
part-of : (rows now : List Row) (cells kept : List Cell) (account symbol bytes : List ℕ) (below : Bool) (level at places start end : ℕ) (sums : List (List Run)) (x : ℤ) → AreSums rows kept → TurnoverFits (standing rows) → rows ≡ now → cells ≡ kept → sums ≡ sums_of (record { account = bytes; symbol = symbol; below = below }) cells → bytes ≡ account → start ≡ at * 2 ^ level → end ≡ (at + 1) * 2 ^ level → x ≡ int_wrap w128 (before (runs_in sums places) end -ℤ before (runs_in sums places) start) → x ≡ mantissas account symbol below level at (standing now) places
part-of rows now cells kept account symbol bytes below level at places start end sums x are fits same held is text starts ends value =
    let sums_are : sums ≡ sums_of (record { account = account; symbol = symbol; below = below }) kept = is ∙ (λ i. sums_of (record { account = text i; symbol = symbol; below = below }) (held i)) in
    value
    ∙ (λ i. int_wrap w128 (before (runs_in (sums_are i) places) (ends i) -ℤ before (runs_in (sums_are i) places) (starts i)))
    ∙ part-is account symbol below level at rows kept places are fits
    ∙ ap (λ (rs : List Row). mantissas account symbol below level at (standing rs) places) same

nonzero-of : (x : ℤ) → (of_z w128 x ≡ 0 → ⊥) → x ≡ pos 0 → ⊥
nonzero-of x h e = h (ap (of_z w128) e)

pub loop-places-init : goal.loop-places-init
loop-places-init c =
    let none = no-part c.args.account.now c.args.symbol.now c.args.below c.args.level c.args.at (standing c.args.self.now) in
    record {
      value = ap units_of c.zero-sum.ensures ∙ units-zero ∙ sym none;
      places = omega (arith, ap (λ (d : Decimal). d.places) c.zero-sum.ensures);
    }
  where
    units-zero : units_of (record { mantissa = pos 0; places = 0 }) ≡ pos 0
    units-zero = refl

pub invariant_of-sum_of : goal.invariant_of-sum_of
invariant_of-sum_of c =
    let x : ℤ = c.sum_between-mantissa.result in
    let told : List Row = standing c.args.self.now in
    let fits : TurnoverFits told = subst (λ (rs : List Row). TurnoverFits (standing rs)) c.self.view_is c.self.invariant.fits in
    let clean : to_z w128 (of_z w128 c.sum_between-mantissa.result) ≡ c.sum_between-mantissa.result = to_z-of_z w128 c.sum_between-mantissa.result (record { sfits = c.sum_between-mantissa.type_inv }) in
    let is : x ≡ mantissas c.args.account.now c.args.symbol.now c.args.below c.args.level c.args.at told c.loop-places.places =
    part-of (rows_put c.self.inside.puts) c.args.self.now (cells_of c.self.inside.cells) (cells_of c.self.inside.cells) c.args.account.now c.args.symbol.now c.as_bytes.result.now c.args.below c.args.level c.args.at c.loop-places.places c.first_day-start.result c.first_day-end.result (told_by (option_copied c.find-cell.result)) x
    c.self.invariant.sums c.self.invariant.fits c.self.view_is refl (c.find-cell.ensures c.self.invariant.sums.cells.ordered) c.as_bytes.ensures (c.first_day-start.ensures ∙ ap (λ (n : ℕ). n * 2 ^ c.args.level) c.from.ensures) (c.first_day-end.ensures ∙ ap (λ (n : ℕ). (n + 1) * 2 ^ c.args.level) c.from-2.ensures) c.sum_between-mantissa.ensures in
    let P : ℤ → Type 0 = λ z. IsInBounds z c.loop-places.places in
    subst P (sym clean) (part-bounds c.args.account.now c.args.symbol.now c.args.below c.args.level c.args.at told c.loop-places.places x fits is c.loop-places-test.true)

pub sum_of-sum-requires : goal.sum_of-sum-requires
sum_of-sum-requires c = λ few_sum few.
    let x : ℤ = c.sum_between-mantissa.result in
    let told : List Row = standing c.args.self.now in
    let fits : TurnoverFits told = subst (λ (rs : List Row). TurnoverFits (standing rs)) c.self.view_is c.self.invariant.fits in
    let clean : to_z w128 (of_z w128 c.sum_between-mantissa.result) ≡ c.sum_between-mantissa.result = to_z-of_z w128 c.sum_between-mantissa.result (record { sfits = c.sum_between-mantissa.type_inv }) in
    let is : x ≡ mantissas c.args.account.now c.args.symbol.now c.args.below c.args.level c.args.at told c.loop-places.places =
    part-of (rows_put c.self.inside.puts) c.args.self.now (cells_of c.self.inside.cells) (cells_of c.self.inside.cells) c.args.account.now c.args.symbol.now c.as_bytes.result.now c.args.below c.args.level c.args.at c.loop-places.places c.first_day-start.result c.first_day-end.result (told_by (option_copied c.find-cell.result)) x
    c.self.invariant.sums c.self.invariant.fits c.self.view_is refl (c.find-cell.ensures c.self.invariant.sums.cells.ordered) c.as_bytes.ensures (c.first_day-start.ensures ∙ ap (λ (n : ℕ). n * 2 ^ c.args.level) c.from.ensures) (c.first_day-end.ensures ∙ ap (λ (n : ℕ). (n + 1) * 2 ^ c.args.level) c.from-2.ensures) c.sum_between-mantissa.ensures in
    ap (λ (z : ℤ). add_fits c.loop-places.sum (record { mantissa = z; places = c.loop-places.places })) clean
    ∙ can-add-part c.args.account.now c.args.symbol.now c.args.below c.args.level c.args.at told c.loop-places.places x c.loop-places.sum fits is (nonzero-of x c.if-mantissa-ne0.true) c.loop-places.invariant few_sum few

pub loop-places-preserved : goal.loop-places-preserved
loop-places-preserved c =
    let x : ℤ = c.sum_between-mantissa.result in
    let told : List Row = standing c.args.self.now in
    let fits : TurnoverFits told = subst (λ (rs : List Row). TurnoverFits (standing rs)) c.self.view_is c.self.invariant.fits in
    let clean : to_z w128 (of_z w128 c.sum_between-mantissa.result) ≡ c.sum_between-mantissa.result = to_z-of_z w128 c.sum_between-mantissa.result (record { sfits = c.sum_between-mantissa.type_inv }) in
    let is : x ≡ mantissas c.args.account.now c.args.symbol.now c.args.below c.args.level c.args.at told c.loop-places.places =
    part-of (rows_put c.self.inside.puts) c.args.self.now (cells_of c.self.inside.cells) (cells_of c.self.inside.cells) c.args.account.now c.args.symbol.now c.as_bytes.result.now c.args.below c.args.level c.args.at c.loop-places.places c.first_day-start.result c.first_day-end.result (told_by (option_copied c.find-cell.result)) x
    c.self.invariant.sums c.self.invariant.fits c.self.view_is refl (c.find-cell.ensures c.self.invariant.sums.cells.ordered) c.as_bytes.ensures (c.first_day-start.ensures ∙ ap (λ (n : ℕ). n * 2 ^ c.args.level) c.from.ensures) (c.first_day-end.ensures ∙ ap (λ (n : ℕ). (n + 1) * 2 ^ c.args.level) c.from-2.ensures) c.sum_between-mantissa.ensures in
    elim c.if-mantissa-ne0.branch [
      | then-mantissa-ne0 w ↦ rw w.sum-is (part-added c.args.account.now c.args.symbol.now c.args.below c.args.level c.args.at told c.loop-places.places x c.loop-places.sum w.sum_of-sum.result is (nonzero-of x w.if-mantissa-ne0.true) c.loop-places.invariant
          (w.sum_of-sum.ensures.value ∙ ap (λ (z : ℤ). units_of c.loop-places.sum +ℤ units_of (record { mantissa = z; places = c.loop-places.places })) clean) w.sum_of-sum.ensures.places)
      | else-mantissa-ne0 w ↦ rw w.sum-is (part-skipped c.args.account.now c.args.symbol.now c.args.below c.args.level c.args.at told c.loop-places.places x c.loop-places.sum is (sym clean ∙ ap (to_z w128) w.if-mantissa-ne0.false) c.loop-places.invariant)
    ]

pub returns-clause-sum : goal.returns-clause-sum
returns-clause-sum c =
    let told : List Row = standing c.args.self.now in
    let few = standing-few c.args.self.now (subst (λ (rs : List Row). AllByRecursion (λ (r : Row). r.value.places ≤ 36) rs) c.self.view_is c.self.invariant.sums.few) in
    let all : c.loop-places.places ≡ 37 = omega arith in
    let P : ℤ → Type 0 = λ z. IsSum told c.args.symbol.now z c.loop-places.sum in
    subst P (ap (λ (n : ℕ). total (filter (parts c.args.account.now c.args.symbol.now c.args.below c.args.level c.args.at n) told)) all ∙ all-parts c.args.account.now c.args.symbol.now c.args.below c.args.level c.args.at told few) c.loop-places.invariant
