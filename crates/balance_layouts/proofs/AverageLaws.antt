-- What kept averages say, and which symbol is the least of those without one.
use Rattle.std.proofs.Common.{◌≡◌, ℕ, zero, suc, ℤ, pos, ◌+◌, ◌-◌, ◌*◌, ◌^◌, ◌==◌, ◌<◌, ◌*ℤ◌, unsigned_abs, Bool, true, false, not, cond, List, [], ◌∷◌, ◌++◌, map, filter, length, get_or, drop, Option, Some, None, refl, sym, ap, ◌∙◌, append_assoc, append-nil, arith}
use Rattle.std.specs.List.{flat_map}
use Rattle.std.proofs.lemmas.Bool.{ne_eqb}
use Rattle.std.proofs.lemmas.Int.{unsigned_abs-mul}
use Rattle.std.proofs.lemmas.List.{at_drop_more, map-append}
use Rattle.std.proofs.lemmas.List.Sums.{fold-append}
use Rattle.hl_num.specs.Decimal.{Decimal, units_of}
use Rattle.hl_num.proofs.RoundingLemmas.{pow_ten_positive}
use Rattle.book.specs.Mixed.{is_zero}
use Rattle.book.specs.Sums.{is_nonzero}
use Rattle.book.specs.declared.style.Style.{Style}
use Rattle.report_cells.specs.declared.cells.CellRow.{CellRow}
use Rattle.report_cells.specs.Report.{Sums, row_seen, seen}
use Rattle.balance_rows.specs.declared.layout.Layout.{Layout}
use Rattle.balance_rows.specs.Rows.{Row}
use Rattle.balance_rows.specs.Kept.{KeptSums}
use Rattle.hl_num.specs.Shortest.{shortest}
use Rattle.balance_layouts.specs.Averages.{average_entry, average_of, averages, is_out, is_past, least_with, lesser, symbols_out}
use Rattle.balance_layouts.specs.KeptAverages.{entry_average, kept_average, least_beside, shown_average}
use Rattle.balance_layouts.specs.Totals.{first_out, outs_of, rows_out, totals_out}

product : (a n : ℕ) → 0 < n → (a * n == 0) ≡ (a == 0)
product zero n some = let none : 0 * n ≡ 0 = omega arith in ap (λ (x : ℕ). x == 0) none
product (suc a) n some = ne_eqb (suc a * n) 0 (omega arith) ∙ sym (ne_eqb (suc a) 0 (omega arith))

zero_scaled : (m : ℤ) (n : ℕ) → 0 < n → (unsigned_abs (m *ℤ pos n) == 0) ≡ (unsigned_abs m == 0)
zero_scaled m n some = ap (λ (x : ℕ). x == 0) (unsigned_abs-mul m (pos n)) ∙ product (unsigned_abs m) n some

plain : (b : Bool) (s : List ℕ) (v : Decimal) (rest : Sums) → seen (cond b [] ((s, v) ∷ [])) ++ rest ≡ cond (not b) ((s, units_of v) ∷ rest) rest
plain true s v rest = refl
plain false s v rest = refl

one_seen : (s : List ℕ) (v : Decimal) (rest : Sums) → seen (cond (is_zero v) [] ((s, v) ∷ [])) ++ rest ≡ cond (is_nonzero (units_of v)) ((s, units_of v) ∷ rest) rest
one_seen s v rest =
    plain (is_zero v) s v rest
    ∙ ap (λ (b : Bool). cond (not b) ((s, units_of v) ∷ rest) rest) (sym (zero_scaled v.mantissa (10 ^ (36 - v.places)) (pow_ten_positive (36 - v.places))))

module _ (columns : ℕ) (style : List ℕ → Style) where
  -- the averages of entries of which none can't be told
  told : Sums → Sums
  told entries = filter (λ sum. is_nonzero sum.1) (map (average_entry columns style) entries)

  kept_one : (b : Bool) (e : List ℕ × Decimal) (fs : Sums)
      → seen (shown_average e.0 (cond b None (Some (record { mantissa = average_of columns (style e.0).places (shortest (units_of e.1)); places = (style e.0).places })))) ++ told fs
      ≡ told (cond (not b) ((e.0, units_of e.1) ∷ fs) fs)
  unfolding told
  kept_one true e fs = refl
  kept_one false e fs =
      one_seen e.0 (record { mantissa = average_of columns (style e.0).places (shortest (units_of e.1)); places = (style e.0).places }) (filter (λ sum. is_nonzero sum.1) (map (average_entry columns style) fs))

  -- what the kept averages say
  pub kept_is : (es : KeptSums) → seen (flat_map (kept_average columns style) es) ≡ averages columns style (seen es)
  unfolding told
  kept_is [] = refl
  kept_is (e ∷ es) =
      map-append (λ (entry : List ℕ × Decimal). (entry.0, units_of entry.1)) (kept_average columns style e) (flat_map (kept_average columns style) es)
      ∙ ap (λ (rest : Sums). seen (kept_average columns style e) ++ rest) (kept_is es)
      ∙ kept_one (is_past columns (style e.0).places (shortest (units_of e.1))) e (filter (λ entry. not (is_out columns style entry)) (seen es))

  least_one : (b : Bool) (v : Decimal) (before : Option (List ℕ)) (x : List ℕ × ℤ) (fs : Sums)
      → least_with (least_beside before x.0 (cond b None (Some v))) (map (λ entry. entry.0) fs) ≡ least_with before (map (λ entry. entry.0) (cond b (x ∷ fs) fs))
  least_one true v before x fs = refl
  least_one false v before x fs = refl

  -- one entry on
  pub least_next : (before : Option (List ℕ)) (es : KeptSums) (i : ℕ) (d : List ℕ × Decimal) → i < length es
      → least_with (least_beside before (get_or es i d).0 (entry_average columns style (get_or es i d))) (symbols_out columns style (seen (drop (i + 1) es)))
      ≡ least_with before (symbols_out columns style (seen (drop i es)))
  least_next before es i d within =
      let e : List ℕ × Decimal = get_or es i d in
      least_one (is_past columns (style e.0).places (shortest (units_of e.1))) (record { mantissa = average_of columns (style e.0).places (shortest (units_of e.1)); places = (style e.0).places }) before (e.0, units_of e.1) (filter (is_out columns style) (seen (drop (i + 1) es)))
      ∙ sym (at_drop_more (λ (rest : KeptSums). least_with before (symbols_out columns style (seen rest))) es i d within)

-- ---- the least symbol of a table

module _ (layout : Layout) (columns : ℕ) (style : List ℕ → Style) where
  rows_out-more : (rows : List CellRow) (row : CellRow)
      → rows_out layout columns style (map row_seen (rows ++ row ∷ [])) ≡ rows_out layout columns style (map row_seen rows) ++ outs_of layout columns style (map seen row.cells)
  rows_out-more [] row = append-nil (outs_of layout columns style (map seen row.cells))
  rows_out-more (r ∷ rows) row =
      ap (λ (more : List (List ℕ)). outs_of layout columns style (map seen r.cells) ++ more) (rows_out-more rows row)
      ∙ sym (append_assoc (outs_of layout columns style (map seen r.cells)) (rows_out layout columns style (map row_seen rows)) (outs_of layout columns style (map seen row.cells)))

  -- one row on
  pub rows_more : (before : Option (List ℕ)) (rows : List CellRow) (row : CellRow)
      → least_with (least_with before (rows_out layout columns style (map row_seen rows))) (outs_of layout columns style (map seen row.cells))
      ≡ least_with before (rows_out layout columns style (map row_seen (rows ++ row ∷ [])))
  rows_more before rows row =
      sym (fold-append lesser before (rows_out layout columns style (map row_seen rows)) (outs_of layout columns style (map seen row.cells)))
      ∙ ap (least_with before) (sym (rows_out-more rows row))

  -- the rows and then the totals
  pub both_more : (rows : List Row) (totals : List Sums)
      → least_with (least_with None (rows_out layout columns style rows)) (totals_out layout columns style totals) ≡ first_out layout columns style rows totals
  both_more rows totals = sym (fold-append lesser None (rows_out layout columns style rows) (totals_out layout columns style totals))
