-- Days before a day as those of nodes.
use Rattle.std.proofs.Common.{◌≡◌, ℕ, pos, ◌+◌, ◌-◌, ◌*◌, ◌/◌, ◌%◌, ◌^◌, ◌<◌, ◌+ℤ◌, nat_lt, ◌==◌, Bool, true, false, ◌&&◌, List, refl, sym, ap, ◌∙◌, add-one, arith}
use Rattle.std.proofs.lemmas.Bool.Decides.{nat_tests}
use Rattle.std.proofs.lemmas.Nat.{pow_pos}
use Rattle.std.proofs.Math.Nat.{pow-suc, div-lt_iff_lt-mul, div-div-eq-div-mul}
use Rattle.live_index.specs.declared.row.Row.{Row}
use Rattle.live_index.specs.Rows.{counts, node_sum, sum_before}
use Rattle.live_index.proofs.Sums.{Splits, total-split, total-none}

-- a day stands before a multiple of w where its quotient does
pub before-div : (day k w : ℕ) → 0 < w → nat_lt day (k * w) ≡ nat_lt (day / w) k
before-div day k w h =
    let iff = div-lt_iff_lt-mul {k = w} {x = day} {y = k} h in
    grind (arith, nat_tests, iff.0, iff.1)

split_days : (x : Bool) (q k : ℕ) → Splits (x && nat_lt q k) (x && (q == k)) (x && nat_lt q (k + 1))
split_days true q k = record { one = grind (arith, nat_tests); apart = grind (arith, nat_tests) }
split_days false q k = record { one = refl; apart = refl }

-- the days before the end of a node are those before its start and its own
pub before-node : (rows : List Row) (account symbol : List ℕ) (below : Bool) (level k : ℕ) → sum_before rows account symbol below ((k + 1) * 2 ^ level) ≡ sum_before rows account symbol below (k * 2 ^ level) +ℤ node_sum rows account symbol below level k
before-node rows account symbol below level k =
    let w : 0 < 2 ^ level = pow_pos level in
    total-split (λ row. counts account symbol below row && nat_lt row.day.0 (k * 2 ^ level)) (λ row. counts account symbol below row && (row.day.0 / 2 ^ level == k)) (λ row. counts account symbol below row && nat_lt row.day.0 ((k + 1) * 2 ^ level))
    (λ row. rw (before-div row.day.0 k (2 ^ level) w, before-div row.day.0 (k + 1) (2 ^ level) w) (split_days (counts account symbol below row) (row.day.0 / 2 ^ level) k))
    rows

no_day : (x : Bool) (day : ℕ) → (x && nat_lt day 0) ≡ false
no_day true day = grind (arith, nat_tests)
no_day false day = refl

-- no day stands before the first
pub before-none : (rows : List Row) (account symbol : List ℕ) (below : Bool) → sum_before rows account symbol below 0 ≡ pos 0
before-none rows account symbol below =
    total-none (λ row. counts account symbol below row && nat_lt row.day.0 0) (λ row. no_day (counts account symbol below row) row.day.0) rows

twice-pow : (level : ℕ) → 2 ^ (level + 1) ≡ 2 ^ level * 2
twice-pow level = rw add-one (pow-suc 2 level)

half : (days level : ℕ) → days / 2 ^ (level + 1) ≡ days / 2 ^ level / 2
half days level = ap (λ (n : ℕ). days / n) (twice-pow level) ∙ sym (div-div-eq-div-mul days (2 ^ level) 2)

even_mul : (d w : ℕ) → d % 2 ≡ 0 → d / 2 * (w * 2) ≡ d * w
even_mul d w h =
    let q : ℕ = d / 2 in
    let e : d ≡ d / 2 * 2 = omega (arith, h) in
    let whole : d / 2 * (w * 2) ≡ d / 2 * 2 * w = omega arith in
    whole ∙ ap (λ (n : ℕ). n * w) (sym e)

odd_mul : (d w : ℕ) → d % 2 ≡ 1 → d / 2 * (w * 2) ≡ (d - 1) * w
odd_mul d w h =
    let e : d - 1 ≡ d / 2 * 2 = omega (arith, h) in
    let whole : d / 2 * (w * 2) ≡ d / 2 * 2 * w = omega arith in
    whole ∙ ap (λ (n : ℕ). n * w) (sym e)

-- a digit that isn't set
pub even-start : (days level : ℕ) → days / 2 ^ level % 2 ≡ 0 → days / 2 ^ (level + 1) * 2 ^ (level + 1) ≡ days / 2 ^ level * 2 ^ level
even-start days level h =
    ap (λ (n : ℕ). n * 2 ^ (level + 1)) (half days level) ∙ ap (λ (n : ℕ). days / 2 ^ level / 2 * n) (twice-pow level) ∙ even_mul (days / 2 ^ level) (2 ^ level) h

-- a digit that is set
pub odd-start : (days level : ℕ) → days / 2 ^ level % 2 ≡ 1 → days / 2 ^ (level + 1) * 2 ^ (level + 1) ≡ (days / 2 ^ level - 1) * 2 ^ level
odd-start days level h =
    ap (λ (n : ℕ). n * 2 ^ (level + 1)) (half days level) ∙ ap (λ (n : ℕ). days / 2 ^ level / 2 * n) (twice-pow level) ∙ odd_mul (days / 2 ^ level) (2 ^ level) h

-- the days before a multiple of 2 ^ level, where its digit isn't set
pub even-before : (rows : List Row) (account symbol : List ℕ) (below : Bool) (days level next : ℕ) → next ≡ level + 1 → days / 2 ^ level % 2 ≡ 0 → sum_before rows account symbol below (days / 2 ^ next * 2 ^ next) ≡ sum_before rows account symbol below (days / 2 ^ level * 2 ^ level)
even-before rows account symbol below days level next e h =
    ap (λ (n : ℕ). sum_before rows account symbol below (days / 2 ^ n * 2 ^ n)) e
    ∙ ap (λ (n : ℕ). sum_before rows account symbol below n) (even-start days level h)

-- and where it is, with the node before that day
pub odd-before : (rows : List Row) (account symbol : List ℕ) (below : Bool) (days level next : ℕ) → next ≡ level + 1 → days / 2 ^ level % 2 ≡ 1 → sum_before rows account symbol below (days / 2 ^ next * 2 ^ next) +ℤ node_sum rows account symbol below level (days / 2 ^ level - 1) ≡ sum_before rows account symbol below (days / 2 ^ level * 2 ^ level)
odd-before rows account symbol below days level next e h =
    let k : ℕ = days / 2 ^ level - 1 in
    let last : days / 2 ^ level - 1 + 1 ≡ days / 2 ^ level = omega (arith, h) in
    ap (λ (n : ℕ). sum_before rows account symbol below (days / 2 ^ n * 2 ^ n) +ℤ node_sum rows account symbol below level (days / 2 ^ level - 1)) e
    ∙ ap (λ (n : ℕ). sum_before rows account symbol below n +ℤ node_sum rows account symbol below level (days / 2 ^ level - 1)) (odd-start days level h)
    ∙ sym (before-node rows account symbol below level (days / 2 ^ level - 1))
    ∙ ap (λ (n : ℕ). sum_before rows account symbol below (n * 2 ^ level)) last
