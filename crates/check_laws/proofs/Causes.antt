-- The cause of the group of a transaction that has one group is what is wrong with it alone, where all stays in range.
use Rattle.std.proofs.Common.{◌≡◌, true, List, Option, Some, None, refl, sym, ◌∙◌}
use Rattle.std.proofs.lemmas.Bool.{false≢true}
use Rattle.book.specs.declared.fault.Cause.{Cause}
use Rattle.book.specs.declared.fault.Cause.TheVariants as cause
use Rattle.book.specs.declared.transaction.Txn.{Txn}
use Rattle.entry_balance.specs.Entry.{cause_alone, moved, settled, solved}
use Rattle.entry_balance.specs.Tally.{turnover_fits}
use Rattle.balancing.specs.Faults.{IsMadeIf, cause_on, fits_through, is_first}
use Rattle.balancing.specs.Groups.{Group}
use Rattle.balancing.specs.Load.{group_cause}
use Rattle.balancing.specs.Solves.{is_allowed}
use Rattle.balancing.proofs.FaultingCauses.{cause_by, cause_is}
use Rattle.std.specs.Prelude.{map}

in_range : (c : Option Cause) → group_cause true c ≡ c
in_range None = refl
in_range (Some cause.Form) = refl
in_range (Some cause.Date) = refl
in_range (Some cause.Number) = refl
in_range (Some cause.Account) = refl
in_range (Some cause.StatusMark) = refl
in_range (Some cause.Directive) = refl
in_range (Some cause.Quote) = refl
in_range (Some cause.TooLong) = refl
in_range (Some cause.Encoding) = refl
in_range (Some cause.TwoMissing) = refl
in_range (Some cause.NotAllowed) = refl
in_range (Some (cause.Unbalanced symbol sum)) = refl
in_range (Some (cause.AssertionFailed wanted found)) = refl
in_range (Some cause.Range) = refl

pub own_cause : (written made : List Txn) (g : Group) (t m : Txn) → IsMadeIf (is_allowed t) t m → is_first written g ≡ true → fits_through (map settled made) g ≡ true → turnover_fits (moved (solved m.postings)) ≡ true → cause_on written made g t m ≡ cause_alone m.postings
own_cause written made g t m made_so first fits own =
    (λ i. cause_by (first i) (fits i) t m)
    ∙ cause_is t m true true made_so (λ can made_txn e. own) (λ e. absurd (false≢true (sym e)))
    ∙ in_range (cause_alone m.postings)
