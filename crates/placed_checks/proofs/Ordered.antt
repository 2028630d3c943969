-- The postings of a transaction in the order of their places: what is so of each after those before it.
use Rattle.std.proofs.Common.{◌≡◌, ℕ, suc, Bool, true, false, ◌&&◌, cond, not, List, [], ◌∷◌, ◌++◌, length, filter, Option, Some, None, is_some, is_none, refl, sym, ap, ◌∙◌, subst, append_assoc}
use Rattle.std.specs.List.{AllByRecursion, list_any}
use Rattle.std.proofs.lemmas.Bool.{false≢true}
use Rattle.book.specs.SumsBefore.{is_assigned, placed_in}
use Rattle.book.specs.declared.amount.Assertion.{Assertion}
use Rattle.book.specs.declared.transaction.Posting.{Posting}
use Rattle.book.specs.declared.transaction.Txn.{Txn}
use Rattle.balancing.specs.Parts.{is_found, is_in}
use Rattle.balancing.specs.declared.groups.Part.TheVariants as part
use Rattle.balancing.proofs.SolvingBook.{none_of}
use Rattle.balancing.proofs.SolvingSeen.{EachAfter, each_first}
use Rattle.entry_check.specs.Checked.{Others, Told, failure_after, first_failing, in_order}
use Rattle.placed_checks.proofs.Elsewhere.{Entry}
use Rattle.placed_checks.proofs.Lists.{length_more}
use Rattle.placed_checks.proofs.Own.{early, early_skips, early_takes, entry_at, is_late, late_by}

-- ---- from one place to the next

module _ (t : Txn) (n : ℕ) (P : List Posting → Posting → Type 0) (Q : Entry → Type 0)
    (early_ones : (k : ℕ) (xs ys : List Posting) (p : Posting) → t.postings ≡ xs ++ p ∷ ys → length xs ≡ k → is_late t p ≡ false → P (early t xs) p → Q (entry_at t n k p))
    (late_ones : (k : ℕ) (p : Posting) → is_late t p ≡ true → Q (entry_at t n k p)) where
  pub each_place : (k : ℕ) (xs ps : List Posting) → t.postings ≡ xs ++ ps → length xs ≡ k → EachAfter P (early t xs) (early t ps) → AllByRecursion Q (placed_in t n k ps)
  each_place k xs [] is long h = tt
  each_place k xs (p ∷ ps) is long h =
      let whole : t.postings ≡ (xs ++ p ∷ []) ++ ps = is ∙ sym (append_assoc xs (p ∷ []) ps) in
      let longer : length (xs ++ p ∷ []) ≡ suc k = length_more xs p ∙ ap suc long in
      (elim (is_late t p) as (λ b. is_late t p ≡ b → EachAfter P (early t xs) (cond (not b) (p ∷ early t ps) (early t ps)) → Q (entry_at t n k p) × AllByRecursion Q (placed_in t n (suc k) ps)) [
        | true ↦ λ e f. (late_ones k p e, each_place (suc k) (xs ++ p ∷ []) ps whole longer (subst (λ (s : List Posting). EachAfter P s (early t ps)) (sym (early_skips t xs p e)) f))
        | false ↦ λ e f. (early_ones k xs ps p is long e f.0, each_place (suc k) (xs ++ p ∷ []) ps whole longer (subst (λ (s : List Posting). EachAfter P s (early t ps)) (sym (early_takes t xs p e)) f.1))
      ]) refl h

-- ---- the order in which a transaction's assertions are judged

none_is_not : (o : Option Assertion) → is_none o ≡ not (is_some o)
none_is_not None = refl
none_is_not (Some w) = refl

pub found_is : (p : Posting) → is_found p ≡ late_by true p
found_is p = ap (λ (b : Bool). p.filled && b) (none_is_not p.wanted)

pub all_early : (ps : List Posting) → filter (λ p. not (late_by false p)) ps ≡ ps
all_early [] = refl
all_early (p ∷ ps) = ap (λ (qs : List Posting). p ∷ qs) (all_early ps)

-- no posting's assertion fails after those before it
abbrev pub Passes : Told → Others → List Posting → Posting → Type 0
Passes told others done p = failure_after told others (done ++ p ∷ []) p p.wanted ≡ None

each_passes : (told : Told) (others : Others) (done ps : List Posting) → first_failing told others done ps ≡ None → EachAfter (Passes told others) done ps
each_passes told others done [] h = tt
each_passes told others done (p ∷ ps) h =
    let both = none_of (failure_after told others (done ++ p ∷ []) p p.wanted) (first_failing told others (done ++ p ∷ []) ps) h in
    (both.0, each_passes told others (done ++ p ∷ []) ps both.1)

ordered : (P : List Posting → Posting → Type 0) (b : Bool) (ps : List Posting) → EachAfter P [] (cond b (filter (is_in part.ButFound) ps ++ filter (is_in part.Found) ps) ps) → EachAfter P [] (filter (λ p. not (late_by b p)) ps)
ordered P true ps h =
    let same : filter (is_in part.ButFound) ps ≡ filter (λ p. not (late_by true p)) ps = λ i. filter (λ p. not (found_is p i)) ps in
    subst (EachAfter P []) same (each_first P [] (filter (is_in part.ButFound) ps) (filter (is_in part.Found) ps) h)
ordered P false ps h = subst (EachAfter P []) (sym (all_early ps)) h

-- so passes each that isn't late
pub early_pass : (told : Told) (others : Others) (t : Txn) → first_failing told others [] (in_order t.postings) ≡ None → EachAfter (Passes told others) [] (early t t.postings)
early_pass told others t h = ordered (Passes told others) (list_any is_assigned t.postings) t.postings (each_passes told others [] (in_order t.postings) h)

-- ---- one that is late asks for nothing

never_late : (a b : Bool) → (a && b && false) ≡ true → ⊥
never_late true true h = false≢true h
never_late true false h = false≢true h
never_late false b h = false≢true h

late_nothing : (a b : Bool) (o : Option Assertion) → (a && b && not (is_some o)) ≡ true → o ≡ None
late_nothing a b None h = refl
late_nothing a b (Some w) h = absurd (never_late a b h)

pub late_wants : (t : Txn) (p : Posting) → is_late t p ≡ true → p.wanted ≡ None
late_wants t p h = late_nothing (list_any is_assigned t.postings) p.filled p.wanted h

and_none : (b : Bool) → (b && false) ≡ false
and_none true = refl
and_none false = refl

pub late_unassigned : (t : Txn) (p : Posting) → is_late t p ≡ true → is_assigned p ≡ false
late_unassigned t p h = ap (λ (o : Option Assertion). p.filled && is_some o) (late_wants t p h) ∙ and_none p.filled
