-- What counts for an account of a tree is a part of all cells.
use Rattle.std.proofs.Common.{◌≡◌, ℕ, zero, suc, ◌+◌, ◌<◌, ◌≤◌, inl, inr, Bool, true, false, cond, List, [], ◌∷◌, ◌++◌, length, map, filter, take, append-nil, append_assoc, refl, sym, ap, subst, ◌∙◌, arith}
use Rattle.std.specs.List.{flat_map, range_with_len}
use Rattle.std.specs.Str.{bytes_eq}
use Rattle.std.proofs.lemmas.List.{length-take-le}
use Rattle.std.proofs.lemmas.List.Elements.{filter-append}
use Rattle.report_cells.specs.Report.{Sums}
use Rattle.balance_rows.specs.Rows.{Row}
use Rattle.balance_rows.specs.Sums.{entries_of}
use Rattle.balance_rows.specs.Trees.{given, is_colon_at, lineage, of_name}
use Rattle.balance_layouts.specs.Totals.{cells_of}
use Rattle.balance_rows.proofs.Holding.{alike, bytes_eq-itself}
use Rattle.balance_rows.proofs.Fits.{IsPart, part-itself, part-none}
use Rattle.balance_rows.proofs.TreesLaws.{part-join}

-- ---- the accounts above one, and it itself, are longer and longer

abbrev Lengthen : ℕ → List (List ℕ) → Type 0
Lengthen low [] = Unit {0}
Lengthen low (name ∷ names) = (low ≤ length name) × Lengthen (length name + 1) names

from_less : (low less : ℕ) (names : List (List ℕ)) → less ≤ low → Lengthen low names → Lengthen less names
from_less low less [] h longer = tt
from_less low less (name ∷ names) h longer = (omega (arith, longer.0), longer.1)

module _ (account : List ℕ) where
  abbrev fronts : ℕ → ℕ → List (List ℕ)
  fronts low n = map (λ at. take at account) (filter (is_colon_at account) (range_with_len low n)) ++ account ∷ []

  longer_on : (low n : ℕ) → low + n ≤ length account → Lengthen low (fronts low n)
  longer_on low zero within = (omega (arith, within), tt)
  longer_on low (suc n) within =
      let rest : Lengthen (low + 1) (fronts (low + 1) n) = longer_on (low + 1) n (omega (arith, within)) in
      let long : length (take low account) ≡ low = length-take-le low account (omega (arith, within)) in
      let others = filter (is_colon_at account) (range_with_len (low + 1) n) in
      elim (is_colon_at account low) as (λ b. Lengthen low (map (λ at. take at account) (cond b (low ∷ others) others) ++ account ∷ [])) [
        | true ↦ (omega (arith, long), subst (λ (k : ℕ). Lengthen (k + 1) (fronts (low + 1) n)) (sym long) rest)
        | false ↦ from_less (low + 1) low (fronts (low + 1) n) (omega arith) rest
      ]

  pub lineage-longer : Lengthen 0 (lineage account)
  lineage-longer = longer_on 0 (length account) (omega arith)

-- ---- so each counts for an account once

module _ (a : List ℕ) (cells : List Sums) where
  abbrev mine : List (List ℕ) → List Row
  mine names = of_name a (map (λ x. (x, cells)) names)

  none : (low : ℕ) (names : List (List ℕ)) → Lengthen low names → length a < low → mine names ≡ []
  none low [] longer less = refl
  none low (name ∷ names) longer less = elim (alike name a) [
    | inl same ↦ absurd (omega (arith, longer.0, less, ap length same))
    | inr differ ↦
        ap (λ (b : Bool). cond b ((name, cells) ∷ mine names) (mine names)) differ
        ∙ none (length name + 1) names longer.1 (omega (arith, longer.0, less))
  ]

  once : (low : ℕ) (names : List (List ℕ)) → Lengthen low names → IsPart (cells_of (mine names)) (entries_of cells)
  once low [] longer = part-none (entries_of cells)
  once low (name ∷ names) longer = elim (alike name a) [
    | inl same ↦
        let equal : bytes_eq name a ≡ true = subst (λ (x : List ℕ). bytes_eq x a ≡ true) (sym same) (bytes_eq-itself a) in
        let rest : mine names ≡ [] = none (length name + 1) names longer.1 (omega (arith, ap length same)) in
        let is : mine (name ∷ names) ≡ (name, cells) ∷ [] =
        ap (λ (b : Bool). cond b ((name, cells) ∷ mine names) (mine names)) equal ∙ ap (λ (t : List Row). (name, cells) ∷ t) rest in
        subst (λ (rows : List Row). IsPart (cells_of rows) (entries_of cells)) (sym is)
        (subst (λ (t : Sums). IsPart t (entries_of cells)) (sym (append-nil (entries_of cells))) (part-itself (entries_of cells)))
    | inr differ ↦
        subst (λ (rows : List Row). IsPart (cells_of rows) (entries_of cells))
        (sym (ap (λ (b : Bool). cond b ((name, cells) ∷ mine names) (mine names)) differ))
        (once (length name + 1) names longer.1)
  ]

cells-append : (xs ys : List Row) → cells_of (xs ++ ys) ≡ cells_of xs ++ cells_of ys
cells-append [] ys = refl
cells-append (x ∷ xs) ys =
    ap (λ (t : Sums). entries_of x.1 ++ t) (cells-append xs ys) ∙ sym (append_assoc (entries_of x.1) (cells_of xs) (cells_of ys))

pub part-named : (a : List ℕ) (rows : List Row) → IsPart (cells_of (of_name a (flat_map given rows))) (cells_of rows)
part-named a [] = part-none []
part-named a (row ∷ rows) =
    let split : cells_of (of_name a (given row ++ flat_map given rows)) ≡ cells_of (of_name a (given row)) ++ cells_of (of_name a (flat_map given rows)) =
    ap cells_of (filter-append (λ (row : Row). bytes_eq row.0 a) (given row) (flat_map given rows))
    ∙ cells-append (of_name a (given row)) (of_name a (flat_map given rows)) in
    subst (λ (t : Sums). IsPart t (entries_of row.1 ++ cells_of rows)) (sym split)
    (part-join (cells_of (of_name a (given row))) (cells_of (of_name a (flat_map given rows))) (entries_of row.1) (cells_of rows)
    (once a row.1 0 (lineage row.0) (lineage-longer row.0)) (part-named a rows))
