-- Sums and lines, one posting after another.
use Rattle.std.proofs.Common.{◌≡◌, ℕ, ◌+◌, ◌<◌, ◌≤◌, min, Bool, List, [], ◌∷◌, ◌++◌, length, get_or, take, drop, Option, Some, Result, Ok, Err, OnOk, inl, inr, refl, sym, ap, subst, ◌∙◌, add-one, drop-cons, arith}
use Rattle.std.specs.List.{flat_map, zip}
use Rattle.std.proofs.lemmas.Bool.{cases_lt}
use Rattle.std.proofs.lemmas.Grind.{flat_map-append}
use Rattle.std.proofs.lemmas.List.{append-nil, append_assoc, drop_all, take_more}
use Rattle.hl_num.specs.Decimal.{Decimal, units_of}
use Rattle.book.specs.declared.style.Style.{Style}
use Rattle.report_table.specs.Tables.{spaces}
use Rattle.report_cells.specs.Kept.{Cell, ShareFits, with_share}
use Rattle.report_cells.specs.Report.{seen}
use Rattle.report_cells.specs.Taken.{Taken}
use Rattle.register_report.specs.Heads.{Headed}
use Rattle.register_report.specs.Lines.{Shown, continues, posting_text, stamp, sums_lines, further_line, column_line, sum_text}
use Rattle.register_report.specs.Summed.{summed, SumsFit, kept_lines, kept_line, kept_text, cell_lines}

-- what is left begins with the item
left_here : {X : Type 0} (xs : List X) (i : ℕ) (x : X) → i < length xs → x ≡ get_or xs i x → drop i xs ≡ x ∷ drop (i + 1) xs
left_here xs i x lt is =
    let cut : drop i xs ≡ get_or xs i x ∷ drop (i + 1) xs = rw (add-one, drop-cons xs i x) refl in
    cut ∙ ap (λ y. y ∷ drop (i + 1) xs) (sym is)

zip_nil : (hs : List Headed) → zip {K = Headed} {X = Taken} hs [] ≡ []
zip_nil [] = refl
zip_nil (h ∷ hs) = refl

-- one item more of a list is written
pub lines_more : {X : Type 0} (f : X → List ℕ) (xs : List X) (i : ℕ) (x : X) (first out new : List ℕ) → i < length xs → x ≡ get_or xs i x
    → out ≡ first ++ flat_map f (take i xs) → new ≡ out ++ f x → new ≡ first ++ flat_map f (take (i + 1) xs)
lines_more f xs i x first out new lt is so_far pushed =
    let more : take (i + 1) xs ≡ take i xs ++ x ∷ [] = take_more xs i x lt ∙ ap (λ y. take i xs ++ y ∷ []) (sym is) in
    let one : flat_map f (x ∷ []) ≡ f x = append-nil (f x) in
    pushed
    ∙ ap (λ o. o ++ f x) so_far
    ∙ append_assoc first (flat_map f (take i xs)) (f x)
    ∙ ap (λ o. first ++ o) (sym (ap (flat_map f) more ∙ flat_map-append f (take i xs) (x ∷ []) ∙ ap (λ o. flat_map f (take i xs) ++ o) one))

module _ (ts : List Taken) (i : ℕ) (sums : Cell) where
  module _ (t : Taken) (lt : i < length ts) (is : t ≡ get_or ts i t) where
    -- the next one fits
    pub sum_fits : SumsFit sums (drop i ts) → ShareFits t.amount sums
    sum_fits fits = (subst (SumsFit sums) (left_here ts i t lt is) fits).0

    module _ (new : Cell) (added : new ≡ with_share t.amount sums) where
      -- those behind it still do
      pub fits_next : SumsFit sums (drop i ts) → SumsFit new (drop (i + 1) ts)
      fits_next fits = subst (λ (m : Cell). SumsFit m (drop (i + 1) ts)) (sym added) (subst (SumsFit sums) (left_here ts i t lt is) fits).1

      -- it is taken in
      pub sum_next : (whole : Cell) → whole ≡ summed sums (drop i ts) → whole ≡ summed new (drop (i + 1) ts)
      sum_next whole e = e ∙ ap (summed sums) (left_here ts i t lt is) ∙ ap (λ (m : Cell). summed m (drop (i + 1) ts)) (sym added)

  -- all are
  pub sum_done : (whole : Cell) → length ts ≤ i → whole ≡ summed sums (drop i ts) → sums ≡ whole
  sum_done whole le e = sym (e ∙ ap (summed sums) (drop_all i ts le))

module _ (style : List ℕ → Style) where
  further_are : (es : Cell) → flat_map (kept_line style) es ≡ flat_map (further_line style) (seen es)
  further_are [] = refl
  further_are (e ∷ es) = ap (λ rest. kept_line style e ++ rest) (further_are es)

  -- a line of its own, behind what was written
  pub further_is : {E : Type 0} (sum : List ℕ × Decimal) (out spaced new text : List ℕ) (r : Result (Unit {0}) E)
      → spaced ≡ out ++ spaces 69 → text ≡ kept_text style sum → OnOk r (new ≡ spaced ++ column_line text) → OnOk r (new ≡ out ++ kept_line style sum)
  further_is sum out spaced new text (Ok u) is_spaced is_text is_new =
      is_new
      ∙ ap (λ x. x ++ column_line text) is_spaced
      ∙ append_assoc out (spaces 69) (column_line text)
      ∙ ap (λ t. out ++ (spaces 69 ++ column_line t)) is_text
  further_is sum out spaced new text (Err e) is_spaced is_text is_new = tt

  -- kept sums are written as what they say
  pub cell_is : (es : Cell) → cell_lines style es ≡ sums_lines style (seen es)
  cell_is [] = refl
  cell_is (e ∷ es) = ap (λ rest. column_line (sum_text style (e.0, units_of e.1)) ++ rest) (further_are es)

  module _ (heads : List Headed) (shown : List Taken) (at : ℕ) (sums : Cell) (last : Option (ℕ × ℕ)) (whole out : List ℕ) where
    abbrev pub Written : Type 0
    Written = whole ≡ out ++ kept_lines style sums last (zip (drop at heads) (drop at shown))

    pairs_left : (h : Headed) (t : Taken) → at < length heads → at < length shown → h ≡ get_or heads at h → t ≡ get_or shown at t
        → zip (drop at heads) (drop at shown) ≡ (h, t) ∷ zip (drop (at + 1) heads) (drop (at + 1) shown)
    pairs_left h t in_heads in_shown is_head is_taking =
        ap (λ hs. zip hs (drop at shown)) (left_here heads at h in_heads is_head)
        ∙ ap (λ rest. zip (h ∷ drop (at + 1) heads) rest) (left_here shown at t in_shown is_taking)

    module _ (h : Headed) (t : Taken) (in_heads : at < length heads) (in_shown : at < length shown) (is_head : h ≡ get_or heads at h) (is_taking : t ≡ get_or shown at t) (so_far : Written) where
      abbrev pub with_it : Cell
      with_it = with_share t.amount sums

      abbrev pub rest : List Shown
      rest = zip (drop (at + 1) heads) (drop (at + 1) shown)

      parted : whole ≡ ((out ++ posting_text style (continues last (h, t)) (h, t)) ++ cell_lines style with_it) ++ kept_lines style with_it (Some (stamp (h, t))) rest
      parted =
          let text = posting_text style (continues last (h, t)) (h, t) in
          let lines = cell_lines style with_it in
          let others = kept_lines style with_it (Some (stamp (h, t))) rest in
          so_far
          ∙ ap (λ (es : List Shown). out ++ kept_lines style sums last es) (pairs_left h t in_heads in_shown is_head is_taking)
          ∙ ap (λ (x : List ℕ). out ++ x) (append_assoc text lines others)
          ∙ sym (append_assoc out text (lines ++ others))
          ∙ sym (append_assoc (out ++ text) lines others)

      -- one posting on
      pub written_next : (more entries : Cell) (same : Bool) (next : ℕ × ℕ) (posted new : List ℕ) → more ≡ with_it → entries ≡ more → same ≡ continues last (h, t) → next ≡ stamp (h, t)
          → posted ≡ out ++ posting_text style same (h, t) → new ≡ posted ++ cell_lines style entries
          → whole ≡ new ++ kept_lines style more (Some next) rest
      written_next more entries same next posted new is_more are_entries is_same is_next is_posted is_new =
          let fresh : new ≡ (out ++ posting_text style (continues last (h, t)) (h, t)) ++ cell_lines style with_it =
          is_new
          ∙ ap (λ (m : Cell). posted ++ cell_lines style m) (are_entries ∙ is_more)
          ∙ ap (λ x. x ++ cell_lines style with_it) (is_posted ∙ ap (λ (b : Bool). out ++ posting_text style b (h, t)) is_same) in
          parted
          ∙ ap (λ x. x ++ kept_lines style with_it (Some (stamp (h, t))) rest) (sym fresh)
          ∙ ap (λ (m : Cell). new ++ kept_lines style m (Some (stamp (h, t))) rest) (sym is_more)
          ∙ ap (λ (n : ℕ × ℕ). new ++ kept_lines style more (Some n) rest) (sym is_next)

    no_pairs : min (length heads) (length shown) ≤ at → zip (drop at heads) (drop at shown) ≡ []
    no_pairs enough = elim (cases_lt at (length heads)) [
      | inl lt ↦ ap (zip (drop at heads)) (drop_all at shown (omega (arith, enough, lt))) ∙ zip_nil (drop at heads)
      | inr le ↦ ap (λ hs. zip hs (drop at shown)) (drop_all at heads le)
    ]

    -- all are written
    pub written_all : min (length heads) (length shown) ≤ at → Written → out ≡ whole
    written_all enough so_far = sym (so_far ∙ ap (λ es. out ++ kept_lines style sums last es) (no_pairs enough) ∙ append-nil out)
