-- A form that was found for a written transaction.
use Rattle.std.proofs.Common.{◌≡◌, ℕ, ◌<◌, ◌^◌, nat_lt, ◌==◌, Bool, true, false, ◌&&◌, List, Result, Ok, Err, IfOk, sym, ap, subst, ◌∙◌}
use Rattle.std.specs.List.{list_all}
use Rattle.std.proofs.lemmas.Bool.{eqb-true}
use Rattle.std.proofs.lemmas.Bool.Decides.{Decides-ltb}
use Rattle.hl_base.specs.Counts.{Counts}
use Rattle.balancing.specs.declared.fault.CheckFault.{CheckFault}
use Rattle.book.specs.declared.transaction.Txn.{Txn}
use Rattle.entry_check.specs.Steps.{IsOneChecked}
use Rattle.live_index.specs.declared.row.Row.{Row}
use Rattle.placed_checks.specs.declared.judge.Judged.{Judged}
use Rattle.placed_checks.specs.declared.judge.Judged.TheVariants.{Solved}
use Rattle.placed_checks.specs.Judging.{IsJudged, IsThis, answered, as_checked, judged_as}
use Rattle.placed_checks.specs.Placed.{AreRight, IsPlaced}
use Rattle.placed_checks.specs.Unmixed.{is_unmixed}
use Rattle.placed_checks.proofs.Answering.{is_this}
use Rattle.placed_checks.proofs.Solved.{same_are_right}
use Rattle.balancing.specs.Solves.{is_unmarked}
use Rattle.balancing.specs.declared.fault.CheckFault.TheVariants as check
use Rattle.book.specs.SumsBefore.{Place}
use Rattle.entry_check.specs.Checked.{IsChecked, others_before, told_before}
use Rattle.placed_checks.specs.Placed as checks
use Rattle.placed_sums.specs.Placed as sums
use Rattle.placed_sums.specs.Placed.{Known, known}
use Rattle.reached_walk.specs.declared.place.Spot.{Spot}
use Rattle.watchers.proofs.Tests.{and-both, and-first, and-second}
use Rattle.walked_edits.specs.Causes.{IsCause, from_check}
use Rattle.walked_edits.specs.Counting.{AreChecked}
use Rattle.walked_edits.specs.Solving.{ComesTo, IsFormOf, is_at, is_fit, is_near, place_at}
use Rattle.walked_edits.specs.Symbols.{are_known}
use Rattle.walked_edits.specs.Walking.{IsFound}
use Rattle.walked_edits.specs.declared.fault.WalkFault.{WalkFault}
use Rattle.walked_edits.specs.declared.fault.WalkFault.TheVariants.{Load, Memory}
use Rattle.walked_edits.proofs.Named.{known_named}
use Rattle.walked_edits.proofs.Steps.{at_within}

pub near_small : (spot : Spot) (written : Txn) → is_near spot written ≡ true → spot.day.0 < 2 ^ 22
near_small spot written h = (Decides-ltb spot.day.0 4194304).0 (and-second (written.day.0 == spot.day.0) (nat_lt spot.day.0 4194304) h)

-- the sums before a place are those by which it is judged
pub judged_sums : (book : List Txn) (spot : Spot) (written : Txn) (r : Result Judged CheckFault) (k : Known) (rows : List Row) (earlier : List ℕ) (symbols : List (List ℕ)) → k ≡ known book rows earlier symbols spot.day spot.number → IfOk r (IsJudged k.book (sums.place_of k.day k.number) written) → IfOk r (IsJudged book (place_at spot) written)
judged_sums book spot written r k rows earlier symbols is h = subst (λ (k : Known). IfOk r (IsJudged k.book (sums.place_of k.day k.number) written)) is h

pub counted_one : (before after : Counts) → IsOneChecked before after → AreChecked 1 before after
counted_one before after h = record { bytes_read = h.bytes_read; checked = h.checked }

pub judged_found : (symbols : List (List ℕ)) (book : List Txn) (spot : Spot) (written form : Txn) (judged : Judged) → is_near spot written ≡ true → IsJudged book (place_at spot) written judged → judged ≡ Solved form → is_fit symbols spot form ≡ true → IsFound symbols book spot written form
judged_found symbols book spot written form judged near is_judged is fit = record {
  by_book = λ after few got same.
      subst (λ (j : Judged). IsJudged book (place_at spot) written j) is is_judged after spot.number at few got same;
  within = at_within spot form (and-first (is_at spot form) (are_known symbols form.postings) fit);
  named = known_named symbols form.postings (and-second (is_at spot form) (are_known symbols form.postings) fit);
}
  where
    at : place_at spot ≡ checks.place_of spot.number written.day
    at = ap (λ (d : ℕ). record { day = d; txn = spot.number; posting = 0 }) (sym (eqb-true written.day.0 spot.day.0 (and-first (written.day.0 == spot.day.0) (nat_lt spot.day.0 4194304) near)))

-- where a book solves it there, that is what its check comes to
pub comes_to : (book after : List Txn) (spot : Spot) (written solved : Txn) (r : Result Judged CheckFault) (k : Known) (rows : List Row) (earlier : List ℕ) (symbols : List (List ℕ)) → k ≡ known book rows earlier symbols spot.day spot.number → IsFormOf book after spot written solved
    → IsChecked (told_before k.book (sums.place_of k.day k.number)) (others_before k.book (sums.place_of k.day k.number)) written (as_checked r)
    → IfOk r (λ judged. judged ≡ judged_as (list_all is_unmarked written.postings && is_unmixed (answered judged)) (answered judged)) → ComesTo solved r
comes_to book after spot written solved r k rows earlier symbols is f checked mixed = by r this mixed
  where
    at : place_at spot ≡ checks.place_of spot.number written.day
    at = ap (λ (d : ℕ). record { day = d; txn = spot.number; posting = 0 }) (sym f.day)

    here : IsChecked (told_before book (place_at spot)) (others_before book (place_at spot)) written (as_checked r)
    here = subst (λ (x : Known). IsChecked (told_before x.book (sums.place_of x.day x.number)) (others_before x.book (sums.place_of x.day x.number)) written (as_checked r)) is checked

    placed : IsPlaced (told_before book (place_at spot)) (others_before book (place_at spot)) after spot.number written.day solved
    placed = record {
      there = f.there;
      few = f.few;
      unmixed = f.unmixed;
      right = subst (λ (p : Place). AreRight (told_before book (place_at spot)) (others_before book (place_at spot)) after p) at (same_are_right book after (place_at spot) f.same);
    }

    this : IsThis solved (as_checked r)
    this = is_this book after (place_at spot) spot.number written solved placed f.is_solved f.fits (as_checked r) here

    by : (r : Result Judged CheckFault) → IsThis solved (as_checked r) → IfOk r (λ judged. judged ≡ judged_as (list_all is_unmarked written.postings && is_unmixed (answered judged)) (answered judged)) → ComesTo solved r
    by (Ok judged) same mixed =
        mixed
        ∙ (λ i. judged_as (list_all is_unmarked written.postings && is_unmixed (same i)) (same i))
        ∙ ap (λ (b : Bool). judged_as b solved) (and-both (list_all is_unmarked written.postings) (is_unmixed solved) f.is_solved.unmarked f.unmixed)
    by (Err check.Memory) same mixed = tt
    by (Err (check.Journal fault)) same mixed = same

-- ---- what the form is

-- an answer that the check comes to is put in where it fits
pub answers_fit : (symbols : List (List ℕ)) (spot : Spot) (form solved : Txn) (judged : Judged) → judged ≡ Solved form → judged ≡ Solved solved → form ≡ solved
answers_fit symbols spot form solved judged is are = let both : Solved form ≡ Solved solved = sym is ∙ are in let same : form ≡ solved = cc in same

pub cause_of : (fault : WalkFault) (P : Type 0) → (⊥ → P) → IsCause fault ⊥ → IsCause fault P
cause_of Load P f h = f h
cause_of Memory P f h = tt

pub fault_not : (P : Type 0) (solved : Txn) (fault : CheckFault) → ComesTo solved (Err fault) → IsCause (from_check fault) P
fault_not P solved (check.Journal fault) h = absurd h
fault_not P solved check.Memory h = tt

pub unfit_is : (symbols : List (List ℕ)) (spot : Spot) (form solved : Txn) (judged : Judged) → judged ≡ Solved form → judged ≡ Solved solved → is_fit symbols spot form ≡ false → is_fit symbols spot solved ≡ false
unfit_is symbols spot form solved judged is are off = ap (is_fit symbols spot) (sym (answers_fit symbols spot form solved judged is are)) ∙ off
