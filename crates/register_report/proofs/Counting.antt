-- Kept sums are those of all that was counted.
use Rattle.std.proofs.Common.{◌≡◌, ℕ, ℤ, ◌+◌, ◌-◌, ◌*◌, ◌^◌, ◌<◌, ◌≤◌, max, ◌+ℤ◌, unsigned_abs, List, [], ◌∷◌, ◌++◌, length, take, drop, Option, Some, None, refl, sym, ap, subst, ◌∙◌, take-append-drop, arith}
use Rattle.std.specs.List.{AllByRecursion, zip}
use Rattle.std.proofs.Math.IntN.{+ℤ_assoc, +ℤ_idl, +ℤ_idr}
use Rattle.std.proofs.lemmas.List.{append-nil, append_assoc}
use Rattle.hl_num.proofs.DecimalLaws.{unsigned_abs-add}
use Rattle.book.specs.declared.style.Style.{Style}
use Rattle.report_cells.specs.Bounds.{TurnoverFits, places_at, places_in, turnover_in}
use Rattle.report_cells.specs.Kept.{Cell, HasFewPlaces, ShareFits, with_share}
use Rattle.report_cells.specs.Taken.{Taken, mixed_in, share_in, sum_in}
use Rattle.report_cells.proofs.Choosing.{turnover-append, places-append}
use Rattle.report_cells.proofs.Ending.{seen_is}
use Rattle.report_cells.proofs.Holding.{Holds, holds_none, holds_more, share_fits, told}
use Rattle.register_report.specs.Heads.{Headed}
use Rattle.register_report.specs.Lines.{continues, lines_after, posting_text, register_text, stamp, sums_lines}
use Rattle.register_report.specs.Summed.{SumsFit, kept_lines, summed}
use Rattle.register_report.proofs.Stepping.{cell_is}

-- one more taking
sum-push : (q : List ℕ) (ts : List Taken) (t : Taken) → sum_in q (ts ++ t ∷ []) ≡ sum_in q ts +ℤ share_in q t.amount
sum-push q [] t = +ℤ_idr (share_in q t.amount) ∙ sym (+ℤ_idl (share_in q t.amount))
sum-push q (x ∷ ts) t = ap (λ (z : ℤ). share_in q x.amount +ℤ z) (sum-push q ts t) ∙ sym (+ℤ_assoc (share_in q x.amount) (sum_in q ts) (share_in q t.amount))

-- a sum comes to no more than the absolute amounts
sum-le : (q : List ℕ) (ts : List Taken) → unsigned_abs (sum_in q ts) ≤ turnover_in q ts
sum-le q [] = omega arith
sum-le q (x ∷ ts) = omega (arith, unsigned_abs-add (share_in q x.amount) (sum_in q ts), sum-le q ts)

abbrev AllFew : List Taken → Type 0
AllFew ts = AllByRecursion (λ t. HasFewPlaces t.amount) ts

-- of all takings some were counted, whose sums are kept, and some are left
pub record Stands (all counted left : List Taken) (sums : Cell) : Type 0 where
  pub parts : all ≡ counted ++ left
  pub few : AllFew left
  pub holds : Holds sums (λ q. sum_in q counted) (λ q. places_in q all)

module _ (all : List Taken) (small : TurnoverFits all) where
  pub start : AllFew all → Stands all [] all []
  start few = record { parts = refl; few = few; holds = holds_none (λ q. places_in q all) }

  module _ (counted left : List Taken) (t : Taken) (sums : Cell) (s : Stands all counted (t ∷ left) sums) where
    room : (q : List ℕ) → unsigned_abs (sum_in q counted) + unsigned_abs (share_in q t.amount) < 2 ^ 127 * 10 ^ (36 - places_in q all)
    room q =
        let turned : turnover_in q all ≡ turnover_in q counted + (unsigned_abs (share_in q t.amount) + turnover_in q left) =
        ap (turnover_in q) s.parts ∙ turnover-append q counted (t ∷ left) in
        omega (arith, small q, turned, sum-le q counted)

    within : (q : List ℕ) → places_at q t.amount ≤ places_in q all
    within q =
        let most : places_in q all ≡ max (places_in q counted) (max (places_at q t.amount) (places_in q left)) =
        ap (places_in q) s.parts ∙ places-append q counted (t ∷ left) in
        omega (arith, most)

    pub fits_one : ShareFits t.amount sums
    fits_one = share_fits sums (λ q. sum_in q counted) (λ q. places_in q all) t.amount s.holds s.few.0 room within

    pub next : Stands all (counted ++ t ∷ []) left (with_share t.amount sums)
    next = record {
      parts = s.parts ∙ sym (append_assoc counted (t ∷ []) left);
      few = s.few.1;
      holds = told (with_share t.amount sums) (λ q. sum_in q counted +ℤ share_in q t.amount) (λ q. sum_in q (counted ++ t ∷ [])) (λ q. places_in q all)
          (holds_more sums (λ q. sum_in q counted) (λ q. places_in q all) s.holds t.amount s.few.0 within) (λ q. sum-push q counted t);
    }

  -- some of those that are left can be added
  pub fits_front : (front back counted : List Taken) (sums : Cell) → Stands all counted (front ++ back) sums → SumsFit sums front
  fits_front [] back counted sums s = tt
  fits_front (t ∷ front) back counted sums s =
      (fits_one counted (front ++ back) t sums s, fits_front front back (counted ++ t ∷ []) (with_share t.amount sums) (next counted (front ++ back) t sums s))

  -- they were
  pub after : (front back counted : List Taken) (sums : Cell) → Stands all counted (front ++ back) sums → Stands all (counted ++ front) back (summed sums front)
  after [] back counted sums s = subst (λ (done : List Taken). Stands all done back sums) (sym (append-nil counted)) s
  after (t ∷ front) back counted sums s =
      subst (λ (done : List Taken). Stands all done back (summed (with_share t.amount sums) front)) (append_assoc counted (t ∷ []) front)
      (after front back (counted ++ t ∷ []) (with_share t.amount sums) (next counted (front ++ back) t sums s))

  pub fits_all : (left counted : List Taken) (sums : Cell) → Stands all counted left sums → SumsFit sums left
  fits_all [] counted sums s = tt
  fits_all (t ∷ left) counted sums s =
      (fits_one counted left t sums s, fits_all left (counted ++ t ∷ []) (with_share t.amount sums) (next counted left t sums s))

  -- lines by kept sums are those of the definition
  pub lines_are : (style : List ℕ → Style) (heads : List Headed) (left counted : List Taken) (sums : Cell) (last : Option (ℕ × ℕ)) → Stands all counted left sums
      → kept_lines style sums last (zip heads left) ≡ lines_after style counted last (zip heads left)
  lines_are style [] left counted sums last s = refl
  lines_are style (h ∷ heads) [] counted sums last s = refl
  lines_are style (h ∷ heads) (t ∷ left) counted sums last s =
      let later = next counted left t sums s in
      let told_as = cell_is style (with_share t.amount sums) ∙ ap (sums_lines style) (seen_is (with_share t.amount sums) (counted ++ t ∷ []) (λ q. places_in q all) later.holds) in
      ap (λ lines. posting_text style (continues last (h, t)) (h, t) ++ lines ++ kept_lines style (with_share t.amount sums) (Some (stamp (h, t))) (zip heads left)) told_as
      ∙ ap (λ rest. posting_text style (continues last (h, t)) (h, t) ++ sums_lines style (mixed_in (counted ++ t ∷ [])) ++ rest)
      (lines_are style heads left (counted ++ t ∷ []) (with_share t.amount sums) (Some (stamp (h, t))) later)

  -- ---- the whole

  module _ (few : AllFew all) (opening : ℕ) where
    parted : Stands all [] (take opening all ++ drop opening all) []
    parted = subst (λ (left : List Taken). Stands all [] left []) (sym (take-append-drop opening all)) (start few)

    pub earlier_fit : SumsFit [] (take opening all)
    earlier_fit = fits_front (take opening all) (drop opening all) [] [] parted

    opened : Stands all (take opening all) (drop opening all) (summed [] (take opening all))
    opened = after (take opening all) (drop opening all) [] [] parted

    pub shown_fit : SumsFit (summed [] (take opening all)) (drop opening all)
    shown_fit = fits_all (drop opening all) (take opening all) (summed [] (take opening all)) opened

    pub text_is : (style : List ℕ → Style) (heads : List Headed)
        → kept_lines style (summed [] (take opening all)) None (zip heads (drop opening all)) ≡ lines_after style (take opening all) None (zip heads (drop opening all))
    text_is style heads = lines_are style heads (drop opening all) (take opening all) (summed [] (take opening all)) None opened

    -- what was written is the register
    pub register_is : (style : List ℕ → Style) (heads : List Headed) (front back : List Taken) (sums : Cell) (begun out text : List ℕ)
        → opening ≡ length all - length heads → front ≡ take opening all → back ≡ drop opening all → sums ≡ summed [] front → begun ≡ []
        → out ≡ begun ++ kept_lines style sums None (zip heads back) → text ≡ out → text ≡ register_text style all heads
    register_is style heads front back sums begun out text is_opening is_front is_back is_sums is_begun is_out is_text =
        is_text ∙ is_out
        ∙ ap (λ (b : List ℕ). b ++ kept_lines style sums None (zip heads back)) is_begun
        ∙ ap (λ (ts : List Taken). kept_lines style sums None (zip heads ts)) is_back
        ∙ ap (λ (m : Cell). kept_lines style m None (zip heads (drop opening all))) (is_sums ∙ ap (summed []) is_front)
        ∙ text_is style heads
        ∙ ap (λ (n : ℕ). lines_after style (take n all) None (zip heads (drop n all))) is_opening
