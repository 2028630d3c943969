-- What counts for an account by its name, and by the place of its goals.
use Rattle.std.proofs.Common.{◌≡◌, ℕ, ◌+◌, ◌<◌, Bool, true, false, ◌||◌, cond, not, inl, inr, List, [], ◌∷◌, length, map, filter, is_some, is_none, Option, Some, None, option_and_then, refl, sym, ap, subst, ◌∙◌, arith}
use Rattle.std.specs.Option.{option_or}
use Rattle.std.specs.Str.{bytes_eq}
use Rattle.std.proofs.lemmas.Bool.{eq-eqb, false≢true, ne_eqb}
use Rattle.std.proofs.lemmas.List.{get_or_default, length-map}
use Rattle.std.proofs.lemmas.List.FromFn.{get_or-map-range_with_len}
use Rattle.report_cells.specs.declared.cells.CellRow.{CellRow}
use Rattle.report_cells.specs.Report.{row_seen}
use Rattle.balance_rows.specs.Rows.{Row}
use Rattle.balance_rows.specs.Trees.{column_sums, lineage}
use Rattle.balance_rows.proofs.Holding.{alike, bytes_eq-itself}
use Rattle.budget_layout.specs.Counted.{counted, counts_for, goal_rows, has_goals, is_for, last_with, uncounted}
use Rattle.budget_layout.specs.Grouped.{group_at, groups_of, is_at, last_place, names_of, place_for, place_from, rows_at, ungrouped}
use Rattle.budget_layout.proofs.Above.{first_some, lineage-place, none_from}
use Rattle.budget_layout.proofs.Placing.{place_name, place_within}

-- an account has goals where it has a place
has_place : (at : ℕ) (goals : List CellRow) (name : List ℕ)
    → has_goals (map row_seen goals) name ≡ is_some (place_from at (names_of goals) name)
has_place at [] name = refl
has_place at (goal ∷ goals) name =
    elim (bytes_eq name goal.account) as (λ b. (b || has_goals (map row_seen goals) name) ≡ is_some (cond b (Some at) (place_from (at + 1) (names_of goals) name))) [
      | true ↦ refl
      | false ↦ has_place (at + 1) goals name
    ]

-- rows that pass a test, as they are seen
pushed : (b : Bool) (row : CellRow) (rows : List CellRow) → map row_seen (cond b (row ∷ rows) rows) ≡ cond b (row_seen row ∷ map row_seen rows) (map row_seen rows)
pushed true row rows = refl
pushed false row rows = refl

filter_seen : (p : CellRow → Bool) (q : Row → Bool) → ((row : CellRow) → p row ≡ q (row_seen row)) → (rows : List CellRow)
    → map row_seen (filter p rows) ≡ filter q (map row_seen rows)
filter_seen p q agree [] = refl
filter_seen p q agree (row ∷ rows) =
    ap (λ (b : Bool). map row_seen (cond b (row ∷ filter p rows) (filter p rows))) (agree row)
    ∙ pushed (q (row_seen row)) row (filter p rows)
    ∙ ap (λ (t : List Row). cond (q (row_seen row)) (row_seen row ∷ t) t) (filter_seen p q agree rows)

none_pass : (q : Row → Bool) → ((row : Row) → q row ≡ false) → (rows : List Row) → [] ≡ filter q rows
none_pass q none [] = refl
none_pass q none (row ∷ rows) =
    none_pass q none rows ∙ sym (ap (λ (b : Bool). cond b (row ∷ filter q rows) (filter q rows)) (none row))

module _ (goals : List CellRow) where
  abbrev own : List ℕ → Option ℕ
  own name = place_from 0 (names_of goals) name

  abbrev seen_goals : List Row
  seen_goals = map row_seen goals

  -- the account that is found has a place
  abbrev HasPlace : Option (List ℕ) → Type 0
  HasPlace None = Unit {0}
  HasPlace (Some name) = is_some (own name) ≡ true

  named_has : (name : List ℕ) (b : Bool) → has_goals seen_goals name ≡ b → HasPlace (cond b (Some name) None)
  named_has name true e = sym (has_place 0 goals name) ∙ e
  named_has name false e = tt

  or_has : (o : Option (List ℕ)) (name : List ℕ) → HasPlace o → HasPlace (option_or o (cond (has_goals seen_goals name) (Some name) None))
  or_has None name h = named_has name (has_goals seen_goals name) refl
  or_has (Some other) name h = h

  last_has : (names : List (List ℕ)) → HasPlace (last_with seen_goals names)
  last_has [] = tt
  last_has (name ∷ names) = or_has (last_with seen_goals names) name (last_has names)

  named_link : (name : List ℕ) (b : Bool) → has_goals seen_goals name ≡ b → own name ≡ option_and_then own (cond b (Some name) None)
  named_link name true e = refl
  named_link name false e = none_from (own name) (sym (has_place 0 goals name) ∙ e)

  or_link : (o : Option (List ℕ)) (name : List ℕ) → HasPlace o
      → option_or (option_and_then own o) (own name) ≡ option_and_then own (option_or o (cond (has_goals seen_goals name) (Some name) None))
  or_link None name h = named_link name (has_goals seen_goals name) refl
  or_link (Some other) name h = first_some (own other) (own name) h

  linked : (names : List (List ℕ)) → last_place own names ≡ option_and_then own (last_with seen_goals names)
  linked [] = refl
  linked (name ∷ names) =
      ap (λ (o : Option ℕ). option_or o (own name)) (linked names) ∙ or_link (last_with seen_goals names) name (last_has names)

  for_is : (account : List ℕ) → place_for own account ≡ option_and_then own (counts_for seen_goals account)
  for_is account = lineage-place own account ∙ linked (lineage account)

  -- ---- tests by place and by name

  same_place : (name other : List ℕ) (p q : ℕ) → own name ≡ Some p → own other ≡ Some q → q ≡ p → other ≡ name
  same_place name other p q e f same =
      let inside : q < length (names_of goals) = omega (arith, place_within other 0 (names_of goals) q f) in
      sym (place_name other 0 (names_of goals) q q other (omega arith) f)
      ∙ get_or_default (names_of goals) q other name inside
      ∙ place_name name 0 (names_of goals) p q name (omega (arith, same)) e

  test_other : (name other : List ℕ) (p : ℕ) → own name ≡ Some p → bytes_eq other name ≡ false → (o : Option ℕ) → own other ≡ o → false ≡ is_at p o
  test_other name other p e differ None f = refl
  test_other name other p e differ (Some q) f =
      sym (ne_eqb q p (λ same. false≢true (sym differ ∙ subst (λ (x : List ℕ). bytes_eq other x ≡ true) (same_place name other p q e f same) (bytes_eq-itself other))))

  test_named : (name : List ℕ) (p : ℕ) → own name ≡ Some p → (o : Option (List ℕ)) → is_for name o ≡ is_at p (option_and_then own o)
  test_named name p e None = refl
  test_named name p e (Some other) = elim (alike other name) [
    | inl same ↦
        subst (λ (x : List ℕ). bytes_eq other x ≡ true) same (bytes_eq-itself other)
        ∙ sym (ap (is_at p) (ap own same ∙ e) ∙ eq-eqb p p refl)
    | inr differ ↦ differ ∙ test_other name other p e differ (own other) refl
  ]

  test_none : (o : Option (List ℕ)) → HasPlace o → is_none (option_and_then own o) ≡ is_none o
  test_none None h = refl
  test_none (Some other) h = ap not h

  test_unplaced : (name : List ℕ) → own name ≡ None → (o : Option (List ℕ)) → HasPlace o → is_for name o ≡ false
  test_unplaced name e None h = refl
  test_unplaced name e (Some other) h = elim (alike other name) [
    | inl same ↦ absurd (false≢true (sym (ap is_some (ap own same ∙ e)) ∙ h))
    | inr differ ↦ differ
  ]

  -- ---- rows

  rows_by : (name : List ℕ) (rows : List CellRow) (o : Option ℕ) → own name ≡ o
      → map row_seen (rows_at o (groups_of own (length goals) rows)) ≡ counted seen_goals name (map row_seen rows)
  rows_by name rows None e =
      none_pass (λ (row : Row). is_for name (counts_for seen_goals row.0))
      (λ (row : Row). test_unplaced name e (counts_for seen_goals row.0) (last_has (lineage row.0))) (map row_seen rows)
  rows_by name rows (Some p) e =
      let inside : p < length goals = omega (arith, place_within name 0 (names_of goals) p e, length-map goals (λ (row : CellRow). row.account)) in
      ap (map row_seen) (get_or-map-range_with_len (group_at own rows) 0 (length goals) p p [] inside (omega arith))
      ∙ filter_seen (λ (row : CellRow). is_at p (place_for own row.account)) (λ (row : Row). is_for name (counts_for seen_goals row.0))
      (λ (row : CellRow). ap (is_at p) (for_is row.account) ∙ sym (test_named name p e (counts_for seen_goals row.account))) rows

  rows_own : (name : List ℕ) (rows : List CellRow)
      → map row_seen (rows_at (own name) (groups_of own (length goals) rows)) ≡ counted seen_goals name (map row_seen rows)
  rows_own name rows = rows_by name rows (own name) refl

  -- the same by places that are kept
  module _ (place : List ℕ → Option ℕ) (placed : (name : List ℕ) → place name ≡ own name) (rows : List CellRow)
      (groups : List (List CellRow)) (grouped : groups ≡ groups_of place (length goals) rows) where
    pub rows_named : (name : List ℕ) → map row_seen (rows_at (place name) groups) ≡ counted seen_goals name (map row_seen rows)
    rows_named name =
        ap (λ (t : List (List CellRow)). map row_seen (rows_at (place name) t)) grouped
        ∙ (λ i. map row_seen (rows_at (placed name i) (groups_of (λ (x : List ℕ). placed x i) (length goals) rows)))
        ∙ rows_own name rows

    each_goal : (columns : ℕ) (some : List CellRow)
        → map {B = Row} (λ (goal : CellRow). (goal.account, column_sums columns (map row_seen (rows_at (place goal.account) groups)))) some
        ≡ map {B = Row} (λ (goal : Row). (goal.0, column_sums columns (counted seen_goals goal.0 (map row_seen rows)))) (map row_seen some)
    each_goal columns [] = refl
    each_goal columns (goal ∷ some) = λ i. (goal.account, column_sums columns (rows_named goal.account i)) ∷ each_goal columns some i

    pub goal_rows_are : (columns : ℕ)
        → map {B = Row} (λ (goal : CellRow). (goal.account, column_sums columns (map row_seen (rows_at (place goal.account) groups)))) goals
        ≡ goal_rows columns seen_goals (map row_seen rows)
    goal_rows_are columns = each_goal columns goals

  pub rest_is : (place : List ℕ → Option ℕ) → ((name : List ℕ) → place name ≡ own name) → (rows : List CellRow)
      → map row_seen (ungrouped place rows) ≡ uncounted seen_goals (map row_seen rows)
  rest_is place placed rows =
      (λ i. map row_seen (ungrouped (λ (x : List ℕ). placed x i) rows))
      ∙ filter_seen (λ (row : CellRow). is_none (place_for own row.account)) (λ (row : Row). is_none (counts_for seen_goals row.0))
      (λ (row : CellRow). ap is_none (for_is row.account) ∙ test_none (counts_for seen_goals row.account) (last_has (lineage row.account))) rows
