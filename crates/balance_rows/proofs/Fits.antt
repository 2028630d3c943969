-- Entries that fit can be added, and what comes out is their sum.
use Rattle.std.proofs.Common.{◌≡◌, ℕ, ℤ, ◌+◌, ◌-◌, ◌*◌, ◌%◌, ◌^◌, ◌<◌, ◌≤◌, unsigned_abs, List, [], ◌∷◌, ◌++◌, map, refl, sym, ap, subst, ◌∙◌, arith}
use Rattle.std.specs.List.{AllByRecursion}
use Rattle.hl_num.specs.Decimal.{Decimal, units_of}
use Rattle.report_cells.specs.Report.{Sums, seen}
use Rattle.balance_rows.specs.Fitting.{Fit, FitsIn, IsWhole, turnover}
use Rattle.balance_rows.specs.Kept.{KeptSums, EachFits, added_all, all_entries}
use Rattle.balance_rows.specs.Sums.{entries_of, mixed_of, share, summed}
use Rattle.balance_rows.proofs.Entries.{all-append, seen_all, turnover-append}
use Rattle.balance_rows.proofs.Final.{seen_is}
use Rattle.balance_rows.proofs.Holding.{FewPlaces, Small, each_fits, holds_all, holds_none, share-itself}
use Rattle.balance_rows.proofs.Shortest.{shortest-whole}

few_each : (most : List ℕ → ℕ) (es : KeptSums) → ((q : List ℕ) → AllByRecursion (IsWhole (most q) q) (seen es)) → AllByRecursion (FewPlaces most) es
few_each most [] whole = tt
few_each most (e ∷ es) whole = (
  shortest-whole (units_of e.1) (most e.0) (subst (λ (z : ℤ). unsigned_abs z % 10 ^ (36 - most e.0) ≡ 0) (share-itself e.0 (units_of e.1)) (whole e.0).0),
  few_each most es (λ q. (whole q).1),
)

pub can_add : (es : KeptSums) → Fit (seen es) → EachFits [] es
can_add es fit =
    let most : List ℕ → ℕ = λ q. (fit q).places in
    each_fits most [] [] es (holds_none most) (few_each most es (λ q. (fit q).whole)) (λ q. (fit q).small)

pub sum_is : (es : KeptSums) → Fit (seen es) → seen (added_all [] es) ≡ mixed_of (seen es)
sum_is es fit =
    let most : List ℕ → ℕ = λ q. (fit q).places in
    seen_is most (added_all [] es) (seen es) (holds_all most [] [] es (holds_none most) (few_each most es (λ q. (fit q).whole)))

-- the same of several cells
pub can_add_cells : (cells : List KeptSums) → Fit (entries_of (map seen cells)) → EachFits [] (all_entries cells)
can_add_cells cells fit = can_add (all_entries cells) (subst Fit (sym (seen_all cells)) fit)

pub cells_sum : (cells : List KeptSums) → Fit (entries_of (map seen cells)) → seen (added_all [] (all_entries cells)) ≡ summed (map seen cells)
cells_sum cells fit = sum_is (all_entries cells) (subst Fit (sym (seen_all cells)) fit) ∙ ap mixed_of (seen_all cells)

-- ---- parts of entries that fit

-- some entries are a part of others
pub record IsPart (xs ys : Sums) : Type 0 where
  pub less : (q : List ℕ) → turnover q xs ≤ turnover q ys
  pub whole : (places : ℕ) (q : List ℕ) → AllByRecursion (IsWhole places q) ys → AllByRecursion (IsWhole places q) xs

pub part-itself : (xs : Sums) → IsPart xs xs
part-itself xs = record { less = λ q. omega arith; whole = λ places q h. h }

pub part-none : (ys : Sums) → IsPart [] ys
part-none ys = record { less = λ q. omega arith; whole = λ places q h. tt }

pub fit_part : (xs ys : Sums) → IsPart xs ys → Fit ys → Fit xs
fit_part xs ys part fit q = record {
  places = (fit q).places;
  few = (fit q).few;
  whole = part.whole (fit q).places q (fit q).whole;
  small = omega (arith, part.less q, (fit q).small);
}
