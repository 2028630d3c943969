-- Of what is solved in a book that stays in range a check answers the transaction, or that memory is wanting.
use Rattle.std.proofs.Common.{◌≡◌, ℕ, true, List, Ok, Err, Result, inl, inr, refl, sym, ap, ◌∙◌}
use Rattle.std.proofs.lemmas.Bool.{false≢true}
use Rattle.book.specs.Postings.{postings_of}
use Rattle.book.specs.SumsBefore.{Place, sum_before}
use Rattle.book.specs.declared.fault.Fault.{Fault}
use Rattle.book.specs.declared.transaction.Txn.{Txn}
use Rattle.entry_balance.specs.Entry.{moved, settled}
use Rattle.entry_balance.specs.Tally.{turnover_fits}
use Rattle.balancing.specs.declared.fault.CheckFault.{CheckFault}
use Rattle.balancing.specs.declared.fault.CheckFault.TheVariants as check
use Rattle.reached_entries.specs.Reached.{IsSolved}
use Rattle.entry_check.specs.Checked.{IsBeyond, IsChecked, Told, asked_fit, checked, made, others_before, told_before}
use Rattle.placed_checks.specs.Judging.{IsThis}
use Rattle.placed_checks.specs.Placed.{IsPlaced, place_of}
use Rattle.placed_checks.proofs.Held.{trimmed_is}
use Rattle.placed_checks.proofs.Lists.{Parts, parted}
use Rattle.placed_checks.proofs.Own.{place_at}
use Rattle.placed_checks.proofs.Passing.{same_day, settled_is, solved_passes}
use Rattle.placed_checks.proofs.Ranging.{all_fit}
use Rattle.placed_checks.proofs.Solved.{days_of}

module _ (one two : List Txn) (place : Place) (n : ℕ) (w t : Txn) (h : IsPlaced (told_before one place) (others_before one place) two n w.day t) (s : IsSolved two n w t) (fits : turnover_fits (moved (postings_of two)) ≡ true) where
  abbrev told : Told
  told = told_before one place

  passes : checked told (others_before one place) w ≡ Ok t
  passes = solved_passes told (others_before one place) two n w t h s

  stays : asked_fit told t.postings t.postings ≡ true
  stays =
      let parts : Parts two n t = parted two n t h.there in
      let here : place_of n w.day ≡ place_at t n 0 = ap (place_of n) (same_day two n w t s) in
      all_fit two parts.front parts.back t n parts.is parts.long (days_of t h.unmixed) h.few fits told (λ below account symbol. sum_before one account symbol below place) (λ below account symbol. refl)
      (λ below account symbol.
      sym (trimmed_is (sum_before one account symbol below place)) ∙ h.right.sums below account symbol ∙ ap (λ (p : Place). sum_before two account symbol below p) here) t.postings

  not_beyond : IsBeyond told w → ⊥
  not_beyond beyond =
      let is : settled (made told w) ≡ t = settled_is told (others_before one place) two n w t h s in
      false≢true (sym (ap (λ (x : Txn). asked_fit told x.postings x.postings) (sym is) ∙ beyond.range) ∙ stays)

  same_ok : (r : Txn) → checked told (others_before one place) w ≡ Ok r → r ≡ t
  same_ok r is =
      let both : Ok r ≡ Ok t = sym is ∙ passes in
      let same : r ≡ t = cc in same

  no_fault : (f : Fault) → checked told (others_before one place) w ≡ Err f → ⊥
  no_fault f is = let both : Err f ≡ Ok t = sym is ∙ passes in let never : ⊥ = cc in never

  pub is_this : (r : Result Txn CheckFault) → IsChecked told (others_before one place) w r → IsThis t r
  is_this (Ok r) is = same_ok r is
  is_this (Err check.Memory) is = tt
  is_this (Err (check.Journal f)) (inl is) = no_fault f is
  is_this (Err (check.Journal f)) (inr out) = not_beyond out.1
