-- Groups of rows, one row after another.
use Rattle.std.proofs.Common.{◌≡◌, ℕ, ◌<◌, ◌==◌, Bool, true, false, cond, inl, inr, List, [], ◌∷◌, ◌++◌, length, get_or, set, map, replicate, is_none, Option, Some, None, IfSome, append-nil, refl, sym, ap, subst, ◌∙◌, arith}
use Rattle.std.specs.List.{range_with_len}
use Rattle.std.proofs.lemmas.Bool.{cases_eq, eq-eqb, eqb-true, ne_eqb}
use Rattle.std.proofs.lemmas.List.{get_or-set_other, get_or-set_same, length-set, same_lists}
use Rattle.std.proofs.lemmas.List.Elements.{filter-append}
use Rattle.std.proofs.lemmas.List.FromFn.{get_or-map-range_with_len, length-map-range_with_len, length-range_with_len}
use Rattle.report_cells.specs.declared.cells.CellRow.{CellRow}
use Rattle.budget_layout.specs.Grouped.{group_at, groups_of, is_at, place_for, ungrouped, with_rest, with_row}

-- one item of a list over numbers, replaced
set-range : (f : ℕ → List CellRow) (n p : ℕ) (v : List CellRow) → p < n
    → set (map f (range_with_len 0 n)) p v ≡ map (λ k. cond (p == k) v (f k)) (range_with_len 0 n)
set-range f n p v within =
    let xs : List (List CellRow) = map f (range_with_len 0 n) in
    let g : ℕ → List CellRow = λ k. cond (p == k) v (f k) in
    same_lists (set xs p v) (map g (range_with_len 0 n))
    (length-set xs p v ∙ length-map-range_with_len f 0 n ∙ sym (length-map-range_with_len g 0 n))
    (λ k d inside.
    let small : k < n = omega (arith, inside, length-set xs p v, length-map-range_with_len f 0 n) in
    let within_xs : p < length xs = omega (arith, length-map-range_with_len f 0 n) in
    let right : get_or (map g (range_with_len 0 n)) k d ≡ g k = get_or-map-range_with_len g 0 n k k d small (omega arith) in
    elim (cases_eq k p) [
      | inl same ↦
          subst (λ (j : ℕ). get_or (set xs p v) j d ≡ v) (sym same) (get_or-set_same xs p v d within_xs)
          ∙ sym (ap (λ (b : Bool). cond b v (f k)) (eq-eqb p k (sym same))) ∙ sym right
      | inr other ↦
          get_or-set_other xs p k v d other
          ∙ get_or-map-range_with_len f 0 n k k d small (omega arith)
          ∙ sym (ap (λ (b : Bool). cond b v (f k)) (ne_eqb p k (λ e. other (sym e)))) ∙ sym right
    ])

module _ (place : List ℕ → Option ℕ) where
  at-push : (rows : List CellRow) (row : CellRow) (k : ℕ)
      → group_at place (rows ++ row ∷ []) k ≡ group_at place rows k ++ cond (is_at k (place_for place row.account)) (row ∷ []) []
  at-push rows row k = filter-append (λ (r : CellRow). is_at k (place_for place r.account)) rows (row ∷ [])

  put_by : (rows : List CellRow) (row : CellRow) (p k : ℕ) (b : Bool) → (p == k) ≡ b
      → group_at place rows k ++ cond b (row ∷ []) [] ≡ cond b (group_at place rows p ++ row ∷ []) (group_at place rows k)
  put_by rows row p k true e = ap (λ (n : ℕ). group_at place rows n ++ row ∷ []) (sym (eqb-true p k e))
  put_by rows row p k false e = append-nil (group_at place rows k)

  put_at : (rows : List CellRow) (row : CellRow) (p k : ℕ)
      → group_at place rows k ++ cond (is_at k (Some p)) (row ∷ []) [] ≡ cond (p == k) (group_at place rows p ++ row ∷ []) (group_at place rows k)
  put_at rows row p k = put_by rows row p k (p == k) refl

  -- with a row at a place, and with one at none
  one_more : (o : Option ℕ) (count : ℕ) (rows : List CellRow) (row : CellRow) → IfSome o (λ at. at < count)
      → map (λ k. group_at place rows k ++ cond (is_at k o) (row ∷ []) []) (range_with_len 0 count) ≡ with_row o row (groups_of place count rows)
  one_more None count rows row within = λ i. map (λ k. append-nil (group_at place rows k) i) (range_with_len 0 count)
  one_more (Some p) count rows row within =
      let here : get_or (groups_of place count rows) p [] ≡ group_at place rows p =
      get_or-map-range_with_len (group_at place rows) 0 count p p [] within (omega arith) in
      (λ i. map (λ k. put_at rows row p k i) (range_with_len 0 count))
      ∙ sym (set-range (group_at place rows) count p (group_at place rows p ++ row ∷ []) within)
      ∙ sym (ap (λ (group : List CellRow). set (groups_of place count rows) p (group ++ row ∷ [])) here)

  pub grouped_more : (count : ℕ) (rows : List CellRow) (row : CellRow) (o : Option ℕ) (now new : List (List CellRow)) → o ≡ place_for place row.account
      → IfSome o (λ at. at < count) → now ≡ groups_of place count rows → new ≡ with_row o row now → new ≡ groups_of place count (rows ++ row ∷ [])
  grouped_more count rows row o now new placed within was put =
      put ∙ ap (with_row o row) was
      ∙ sym (one_more o count rows row within)
      ∙ ap (λ (p : Option ℕ). map (λ k. group_at place rows k ++ cond (is_at k p) (row ∷ []) []) (range_with_len 0 count)) placed
      ∙ (λ i. map (λ k. sym (at-push rows row k) i) (range_with_len 0 count))

  rest_by : (o : Option ℕ) (rest : List CellRow) (row : CellRow) → with_rest o row rest ≡ rest ++ cond (is_none o) (row ∷ []) []
  rest_by None rest row = refl
  rest_by (Some p) rest row = sym (append-nil rest)

  pub rest_more : (rows : List CellRow) (row : CellRow) (o : Option ℕ) (now new : List CellRow) → o ≡ place_for place row.account
      → now ≡ ungrouped place rows → new ≡ with_rest o row now → new ≡ ungrouped place (rows ++ row ∷ [])
  rest_more rows row o now new placed was put =
      put ∙ ap (with_rest o row) was ∙ rest_by o (ungrouped place rows) row
      ∙ ap (λ (p : Option ℕ). ungrouped place rows ++ cond (is_none p) (row ∷ []) []) placed
      ∙ sym (filter-append (λ (r : CellRow). is_none (place_for place r.account)) rows (row ∷ []))

  -- no rows
  none_at : (xs : List ℕ) → map (group_at place []) xs ≡ replicate (length xs) []
  none_at [] = refl
  none_at (x ∷ xs) = ap (λ (t : List (List CellRow)). [] ∷ t) (none_at xs)

  pub none_grouped : (count : ℕ) (groups : List (List CellRow)) → groups ≡ replicate count [] → groups ≡ groups_of place count []
  none_grouped count groups is =
      is ∙ sym (none_at (range_with_len 0 count) ∙ ap (λ (n : ℕ). replicate n []) (length-range_with_len 0 count))

  -- a place is that of a group
  pub placed_within : (count : ℕ) (rows : List CellRow) (o found : Option ℕ) (groups : List (List CellRow)) → groups ≡ groups_of place count rows
      → o ≡ found → IfSome found (λ at. at < count) → IfSome o (λ at. at < length groups)
  placed_within count rows o found groups is same within =
      subst (λ (p : Option ℕ). IfSome p (λ at. at < length groups)) (sym same)
      (subst (λ (n : ℕ). IfSome found (λ at. at < n)) (sym (ap length is ∙ length-map-range_with_len (group_at place rows) 0 count)) within)
