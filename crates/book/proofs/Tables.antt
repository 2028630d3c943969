-- What tables keep of each symbol.
use Rattle.std.proofs.Common.{◌≡◌, ℕ, zero, suc, ◌<◌, ◌≤◌, ◌&&◌, T, List, [], ◌∷◌, ◌++◌, length, get_or, set, take, drop, Result, Ok, Err, Option, unwrap_or, refl, sym, ap, ◌∙◌, subst, arith}
use Rattle.std.specs.Prelude.{OnOk, OnErr}
use Rattle.std.specs.Ordering.{nat_cmp, is_lt}
use Rattle.std.specs.Cmp.Lexicographic.{slice_cmp, nat_list_cmp_total}
use Rattle.std.specs.List.{insert}
use Rattle.std.specs.FinMap.Entries.{is_sorted-put, is_sorted, below_all}
use Rattle.book.specs.declared.style.Style.{Style}
use Rattle.book.specs.Entries.{IsRising}
use Rattle.book.specs.Places.{IsPlace, IsGap}
use Rattle.book.specs.Standing.{Numbered, Table, with_number, without_number, kept_of, noted, forgotten}
use Rattle.book.proofs.Places.{find-at, put-at, find-gap, put-gap}
use Rattle.book.proofs.Entries.{text_ties}

module _ (es : Table) (k : List ℕ) (i : ℕ) where
  pub kept-at : (e : List ℕ × Numbered Style) → IsRising es → IsPlace es k i → e ≡ get_or es i e → e.1 ≡ kept_of es k
  kept-at e rising at is = ap (λ (x : List ℕ × Numbered Style). x.1) is ∙ sym (ap (λ (o : Option (Numbered Style)). unwrap_or o []) (find-at nat_list_cmp_total text_ties k es i e rising at))

  pub kept-gap : IsGap (slice_cmp nat_cmp) es k i → [] ≡ kept_of es k
  kept-gap gap = sym (ap (λ (o : Option (Numbered Style)). unwrap_or o []) (find-gap nat_list_cmp_total text_ties k es i gap))

  pub noted-at : (e : List ℕ × Numbered Style) (n : ℕ) (s : Style) → IsRising es → IsPlace es k i → e ≡ get_or es i e → set es i (e.0, with_number n s e.1) ≡ noted n es (k, s)
  noted-at e n s rising at is =
      let key : e.0 ≡ k = ap (λ (x : List ℕ × Numbered Style). x.0) is ∙ at.is e in
      ap (λ (x : List ℕ). set es i (x, with_number n s e.1)) key
      ∙ ap (λ (x : Numbered Style). set es i (k, with_number n s x)) (kept-at e rising at is)
      ∙ sym (put-at nat_list_cmp_total text_ties k es i (with_number n s (kept_of es k)) rising at)

  pub noted-gap : (n : ℕ) (s : Style) → IsGap (slice_cmp nat_cmp) es k i → insert es i (k, with_number n s []) ≡ noted n es (k, s)
  noted-gap n s gap =
      ap (λ (x : Numbered Style). insert es i (k, with_number n s x)) (kept-gap gap)
      ∙ sym (put-gap nat_list_cmp_total text_ties k es i (with_number n s (kept_of es k)) gap)

pub rising-noted : (n : ℕ) (es : Table) (said : List ℕ × Style) → IsRising es → IsRising (noted n es said)
rising-noted n es said h = is_sorted-put (slice_cmp nat_cmp) nat_list_cmp_total said.0 (with_number n said.1 (kept_of es said.0)) es h

pub rising-either : {X E : Type 0} (r : Result X E) (n : ℕ) (es new : Table) (said : List ℕ × Style) → OnOk r (new ≡ noted n es said) → OnErr r (new ≡ es) → IsRising es → IsRising new
rising-either (Ok x) n es new said ok err h = subst (λ (t : Table). IsRising t) (sym ok) (rising-noted n es said h)
rising-either (Err e) n es new said ok err h = subst (λ (t : Table). IsRising t) (sym err) h

below-forgotten : (n : ℕ) (k : List ℕ) (es : Table) → below_all (slice_cmp nat_cmp) k (forgotten n es) ≡ below_all (slice_cmp nat_cmp) k es
below-forgotten n k [] = refl
below-forgotten n k (e ∷ es) = ap (λ b. is_lt (slice_cmp nat_cmp k e.0) && b) (below-forgotten n k es)

sorted-forgotten : (n : ℕ) (es : Table) → is_sorted (slice_cmp nat_cmp) (forgotten n es) ≡ is_sorted (slice_cmp nat_cmp) es
sorted-forgotten n [] = refl
sorted-forgotten n (e ∷ es) =
    ap (λ b. b && is_sorted (slice_cmp nat_cmp) (forgotten n es)) (below-forgotten n e.0 es)
    ∙ ap (λ b. below_all (slice_cmp nat_cmp) e.0 es && b) (sorted-forgotten n es)

pub rising-forgotten : (n : ℕ) (es : Table) → IsRising es → IsRising (forgotten n es)
rising-forgotten n es h = subst (λ b. T b) (sym (sorted-forgotten n es)) h

-- the first i entries without what stands under a number, and the others as they are
abbrev pub halfway : ℕ → ℕ → Table → Table
halfway n i es = forgotten n (take i es) ++ drop i es

pub halfway-step : (n i : ℕ) (es : Table) (d : List ℕ × Numbered Style) → i < length es → set (halfway n i es) i ((get_or (halfway n i es) i d).0, without_number n (get_or (halfway n i es) i d).1) ≡ halfway n (suc i) es
halfway-step n i [] d lt = absurd (omega arith)
halfway-step n zero (e ∷ es) d lt = refl
halfway-step n (suc i) (e ∷ es) d lt = ap (λ (t : Table). (e.0, without_number n e.1) ∷ t) (halfway-step n i es d (omega arith))

pub halfway-end : (n i : ℕ) (es : Table) → length es ≤ i → halfway n i es ≡ forgotten n es
halfway-end n zero [] le = refl
halfway-end n (suc i) [] le = refl
halfway-end n zero (e ∷ es) le = absurd (omega arith)
halfway-end n (suc i) (e ∷ es) le = ap (λ (t : Table). (e.0, without_number n e.1) ∷ t) (halfway-end n i es (omega arith))
