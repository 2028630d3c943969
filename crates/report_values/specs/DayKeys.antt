-- A day with a symbol, in the order of days, and on one day in the order of the symbols' bytes.
use Rattle.std.specs.Prelude.{ℕ, List}
use Rattle.std.specs.declared.cmp.Ordering.{Ordering}
use Rattle.std.specs.Ordering.{nat_cmp, ordering_then}
use Rattle.std.specs.Cmp.{IsTotalOrder}
use Rattle.std.specs.Cmp.Lexicographic.{slice_cmp}
use Rattle.std.proofs.lemmas.Cmp.{on_total, then_total, nat_list_cmp_total, nat_cmp_total}

abbrev pub day_cmp : ℕ × List ℕ → ℕ × List ℕ → Ordering
day_cmp a b = ordering_then (nat_cmp a.0 b.0) (slice_cmp nat_cmp a.1 b.1)

pub day_total : IsTotalOrder day_cmp
day_total =
    then_total (on_total (λ (k : ℕ × List ℕ). k.0) nat_cmp_total)
    (on_total (λ (k : ℕ × List ℕ). k.1) nat_list_cmp_total)
