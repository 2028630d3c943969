-- The places of names.
use Rattle.std.proofs.Common.{◌≡◌, ℕ, zero, suc, ◌+◌, ◌<◌, ◌≤◌, Bool, true, false, cond, inl, inr, List, [], ◌∷◌, length, get_or, drop, Option, Some, None, IfSome, refl, sym, ap, subst, ◌∙◌, arith}
use Rattle.std.specs.Str.{bytes_eq}
use Rattle.std.proofs.lemmas.List.{drop-map, drop_all, drop_more, length-map}
use Rattle.std.proofs.lemmas.Bool.{false≢true}
use Rattle.std.proofs.lemmas.Option.{none-some, same_Some}
use Rattle.report_cells.specs.declared.cells.CellRow.{CellRow}
use Rattle.balance_rows.proofs.Holding.{alike, bytes_eq-itself}
use Rattle.budget_layout.specs.Grouped.{names_of, place_from}

-- ---- the places of rows, from the last one on

pub none_left : (rows : List CellRow) (at : ℕ) (name : List ℕ) → length rows ≤ at → place_from at (drop at (names_of rows)) name ≡ None
none_left rows at name past =
    ap (λ (names : List (List ℕ)). place_from at names name)
    (drop_all at (names_of rows) (omega (arith, length-map rows (λ (row : CellRow). row.account))))

pub placed_more : (rows : List CellRow) (at more : ℕ) (row : CellRow) (old new : List ℕ → Option ℕ) → more ≡ at + 1 → at < length rows
    → row ≡ get_or rows at row → ((q : List ℕ) → old q ≡ place_from more (drop more (names_of rows)) q)
    → ((q : List ℕ) → new q ≡ cond (bytes_eq q row.account) (Some at) (old q))
    → (q : List ℕ) → new q ≡ place_from at (drop at (names_of rows)) q
placed_more rows at more row old new next within read was put q =
    let names = names_of rows in
    let here : drop at names ≡ row.account ∷ drop (at + 1) names =
    drop-map (λ (r : CellRow). r.account) at rows
    ∙ ap names_of (drop_more rows at row within)
    ∙ (λ i. (sym read i).account ∷ sym (drop-map (λ (r : CellRow). r.account) (at + 1) rows) i) in
    put q
    ∙ ap (λ (o : Option ℕ). cond (bytes_eq q row.account) (Some at) o) (was q ∙ ap (λ (n : ℕ). place_from n (drop n names) q) next)
    ∙ sym (ap (λ (t : List (List ℕ)). place_from at t q) here)

pub all_placed : (rows : List CellRow) (at : ℕ) (kept : List ℕ → Option ℕ) → at ≤ 0 → ((q : List ℕ) → kept q ≡ place_from at (drop at (names_of rows)) q)
    → (q : List ℕ) → kept q ≡ place_from 0 (names_of rows) q
all_placed rows at kept none is q =
    let first : at ≡ 0 = omega arith in
    is q ∙ ap (λ (n : ℕ). place_from n (drop n (names_of rows)) q) first

-- ---- a name stands at its place

here_or_on : (at p : ℕ) (b : Bool) (o : Option ℕ) → cond b (Some at) o ≡ Some p → b ≡ true → at ≡ p
here_or_on at p true o e t = same_Some at p e
here_or_on at p false o e t = absurd (false≢true t)

module _ (name : List ℕ) where
  itself : (other : List ℕ) → name ≡ other → bytes_eq name other ≡ true
  itself other same = subst (λ (x : List ℕ). bytes_eq name x ≡ true) same (bytes_eq-itself name)

  further : (at p : ℕ) (other : List ℕ) (others : List (List ℕ)) → bytes_eq name other ≡ false → place_from at (other ∷ others) name ≡ Some p
      → place_from (at + 1) others name ≡ Some p
  further at p other others differ e = sym (ap (λ (b : Bool). cond b (Some at) (place_from (at + 1) others name)) differ) ∙ e

  pub place_low : (at : ℕ) (names : List (List ℕ)) (p : ℕ) → place_from at names name ≡ Some p → at ≤ p
  place_low at [] p e = absurd (none-some p e)
  place_low at (other ∷ others) p e = elim (alike name other) [
    | inl same ↦
        let first : at ≡ p = here_or_on at p (bytes_eq name other) (place_from (at + 1) others name) e (itself other same) in
        omega (arith, first)
    | inr differ ↦ omega (arith, place_low (at + 1) others p (further at p other others differ e))
  ]

  pub place_within : (at : ℕ) (names : List (List ℕ)) (p : ℕ) → place_from at names name ≡ Some p → p < at + length names
  place_within at [] p e = absurd (none-some p e)
  place_within at (other ∷ others) p e = elim (alike name other) [
    | inl same ↦
        let first : at ≡ p = here_or_on at p (bytes_eq name other) (place_from (at + 1) others name) e (itself other same) in
        omega (arith, first)
    | inr differ ↦ omega (arith, place_within (at + 1) others p (further at p other others differ e))
  ]

  pub place_name : (at : ℕ) (names : List (List ℕ)) (p k : ℕ) (d : List ℕ) → at + k ≡ p → place_from at names name ≡ Some p → get_or names k d ≡ name
  place_name at [] p k d at_k e = absurd (none-some p e)
  place_name at (other ∷ others) p zero d at_k e = elim (alike name other) [
    | inl same ↦ sym same
    | inr differ ↦ absurd (omega (arith, place_low (at + 1) others p (further at p other others differ e)))
  ]
  place_name at (other ∷ others) p (suc k) d at_k e = elim (alike name other) [
    | inl same ↦
        let first : at ≡ p = here_or_on at p (bytes_eq name other) (place_from (at + 1) others name) e (itself other same) in
        absurd (omega (arith, first))
    | inr differ ↦ place_name (at + 1) others p k d (omega arith) (further at p other others differ e)
  ]

pub below_by : (names : List (List ℕ)) (name : List ℕ) (o : Option ℕ) → place_from 0 names name ≡ o → IfSome o (λ at. at < length names)
below_by names name None e = tt
below_by names name (Some p) e = omega (arith, place_within name 0 names p e)

pub place_below : (names : List (List ℕ)) (name : List ℕ) → IfSome (place_from 0 names name) (λ at. at < length names)
place_below names name = below_by names name (place_from 0 names name) refl

-- places that are kept are those of rows
pub placed_below : (rows : List CellRow) (place : List ℕ → Option ℕ) (count : ℕ) → ((name : List ℕ) → place name ≡ place_from 0 (names_of rows) name)
    → count ≡ length rows → (name : List ℕ) → IfSome (place name) (λ at. at < count)
placed_below rows place count placed many name =
    subst (λ (o : Option ℕ). IfSome o (λ at. at < count)) (sym (placed name))
    (subst (λ (n : ℕ). IfSome (place_from 0 (names_of rows) name) (λ at. at < n))
    (length-map rows (λ (row : CellRow). row.account) ∙ sym many) (place_below (names_of rows) name))
