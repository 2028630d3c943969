-- The order of rows with what they stand by, and rows that are sorted by it.
use Rattle.std.proofs.Common.{Bor, ◌≡◌, ℕ, ◌-◌, Bool, List, [], length, map, slice_index_or, sym, ap, ◌∙◌}
use Rattle.std.specs.List.{AllByRecursion}
use Rattle.std.specs.Fn.{Mut, Called, ComparesAs}
use Rattle.std.specs.List.Sorted.{IsSortedBy, IsStableBy}
use Rattle.std.specs.Cmp.{IsTotalOrder, IsStrictWeakOrder}
use Rattle.std.specs.declared.cmp.Ordering.{Ordering}
use Rattle.std.specs.Ordering.{is_lt, ordering_then}
use Rattle.std.proofs.lemmas.Fn.{always_returns_same}
use Rattle.std.proofs.lemmas.Cmp.{on_total, then_total}
use Rattle.std.proofs.lemmas.List.{length-map}
use Rattle.std.proofs.lemmas.List.Sorted.{ranks_by}
use Rattle.book.specs.Accounts.{account_cmp}
use Rattle.book.proofs.Accounts.{account_total}
use Rattle.report_cells.specs.Report.{row_seen, seen}
use Rattle.report_cells.specs.declared.cells.CellRow.{CellRow}
use Rattle.balance_rows.specs.Kept.{KeptSums}
use Rattle.balance_rows.specs.Layouts.{amount_in, by_amounts}
use Rattle.balance_rows.specs.Orders.{amount_cmp, row_cmp, sorted}
use Rattle.balance_rows.specs.Ranks.{Rank, rank_cmp}
use Rattle.balance_rows.specs.Rows.{cell_at}
use Rattle.balance_rows.specs.Standing.{StandsBy, ranked_row}
use Rattle.balance_rows.specs.declared.layout.Basis.{Basis}
use Rattle.balance_rows.proofs.Deciding.{amount_total}
use Rattle.balance_rows.proofs.Inserting.{sorted-is, sorted-mapped}
use Rattle.balance_rows.proofs.TreesLaws.{map-twice, seen_at}

pub rank_total : IsTotalOrder rank_cmp
rank_total = then_total (on_total (λ (r : Rank). seen r.0) amount_total) (on_total (λ (r : Rank). r.1.account) account_total)

same_order : (basis : Basis) (a b : Rank) → StandsBy basis a → StandsBy basis b → rank_cmp a b ≡ row_cmp (amount_in basis) (ranked_row a) (ranked_row b)
same_order basis a b h k = λ i. ordering_then (amount_cmp (h i) (k i)) (account_cmp a.1.account b.1.account)

-- ranks in their order are the rows by their amounts
pub ranks_sorted : (basis : Basis) (ranks : List Rank) → AllByRecursion (StandsBy basis) ranks → map ranked_row (sorted rank_cmp ranks) ≡ by_amounts basis (map ranked_row ranks)
ranks_sorted basis ranks each =
    sorted-mapped rank_cmp (row_cmp (amount_in basis)) ranked_row (StandsBy basis) (same_order basis) ranks each

-- a stable sort puts ranks in their order
pub sorted_by_rank : {F : Type 0} {g : Mut F (Bor Rank × (Bor Rank × Unit {0})) Ordering} {f : F} (xs ys : List Rank)
    → ((lt : Rank → Rank → Bool) → IsStrictWeakOrder lt → ComparesAs g lt f → IsSortedBy lt ys)
    → ((lt : Rank → Rank → Bool) → IsStrictWeakOrder lt → ComparesAs g lt f → IsStableBy lt xs ys)
    → ((a : Bor Rank × (Bor Rank × Unit {0})) (r : Ordering) (f' : F) → Called g f a r f' → (r ≡ rank_cmp a.0.now a.1.0.now) × (f' ≡ f)) → ys ≡ sorted rank_cmp xs
sorted_by_rank {g = g} {f = f} xs ys up stable h =
    let lt : Rank → Rank → Bool = λ x y. is_lt (rank_cmp x y) in
    let weak : IsStrictWeakOrder lt = ranks_by rank_total (λ (x : Rank). x) in
    let compares : ComparesAs g lt f = always_returns_same g (λ a r. is_lt r ≡ is_lt (rank_cmp a.0.now a.1.0.now)) f (λ a r f' k. (ap is_lt (h a r f' k).0, (h a r f' k).1)) in
    sorted-is rank_total xs ys (up lt weak compares) (stable lt weak compares)

-- the last cell
pub last_seen : (cells : List KeptSums) → seen (slice_index_or cells (length cells - 1) []) ≡ cell_at (length (map seen cells) - 1) (map seen cells)
last_seen cells = sym (seen_at cells (length cells - 1)) ∙ ap (λ (n : ℕ). cell_at (n - 1) (map seen cells)) (sym (length-map cells seen))

-- rows that are ranked, put in order, and taken out again
pub rows_in_order : (basis : Basis) (rows out : List CellRow) (ranks now : List Rank) → map ranked_row ranks ≡ map row_seen rows → AllByRecursion (StandsBy basis) ranks
    → now ≡ sorted rank_cmp ranks → out ≡ map (λ (rank : Rank). rank.1) now → map row_seen out ≡ by_amounts basis (map row_seen rows)
rows_in_order basis rows out ranks now same each order taken =
    ap (map row_seen) taken ∙ map-twice row_seen (λ (rank : Rank). rank.1) now
    ∙ ap (map ranked_row) order ∙ ranks_sorted basis ranks each ∙ ap (by_amounts basis) same
