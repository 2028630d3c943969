-- A report over a text that was loaded.
use Rattle.std.proofs.Common.{◌≡◌, ℕ, List, Option, Some, None, IfSome, Result, Ok, Err, refl, sym, ap, subst}
use Rattle.live_journal.specs.Journals.{Journal}
use Rattle.live_journal.specs.Loading.{Tells, fault_of, open_cause, or_fault}
use Rattle.live_journal.specs.declared.fault.OpenFault.{OpenFault}
use Rattle.live_journal.specs.declared.fault.OpenFault.TheVariants as unopened
use Rattle.plan_commands.specs.declared.fault.PlanFault.{PlanFault}
use Rattle.desk.specs.Reports.{Reports}
use Rattle.follower_reports.specs.Showing.{Shows, told}
use Rattle.follower_reports.specs.declared.report.ShowFault.{ShowFault}
use Rattle.follower_reports.specs.declared.report.ShowFault.TheVariants.{Load}

opened_is : (j : Journal) (o : Option OpenFault) (live : Journal) → or_fault j o ≡ Ok live → (o ≡ None) × (j ≡ live)
opened_is j None live e = (refl, ap of e)
  where
    of : Result Journal OpenFault → Journal
    of (Ok x) = x
    of (Err f) = j
opened_is j (Some fault) live e = absurd cc

unopened_is : (j : Journal) (o : Option OpenFault) (fault : OpenFault) → or_fault j o ≡ Err fault → o ≡ Some fault
unopened_is j None fault e = absurd cc
unopened_is j (Some other) fault e = ap (λ (f : OpenFault). Some f) (ap of e)
  where
    of : Result Journal OpenFault → OpenFault
    of (Ok x) = other
    of (Err f) = f

-- a text without a year
abbrev pub journal_of : List ℕ → Journal
journal_of text = record { text = text; year = None; revision = 0 }

tells_so : (j : Journal) (o : Option OpenFault) (e : OpenFault) → IfSome (open_cause e) (λ f. or_fault j o ≡ Err f) → Tells e o
tells_so j o unopened.Memory h = tt
tells_so j o (unopened.Load fault) h = unopened_is j o (unopened.Load fault) h
tells_so j o (unopened.TooLarge limit size) h = unopened_is j o (unopened.TooLarge limit size) h

module _ (day : ℕ) (text : List ℕ) (words : List (List ℕ)) (before now : ℕ) (last_before last_now : Option (List ℕ)) where
  by_made : fault_of None text ≡ None → (made : Result (List ℕ) PlanFault) → Reports day None text words before now last_before last_now made
      → Shows day text words before now last_before last_now (told made)
  by_made good (Ok output) reports = (good, reports)
  by_made good (Err fault) reports = (good, reports)

  pub shows_made : (live : Journal) → or_fault (journal_of text) (fault_of None text) ≡ Ok live → (made : Result (List ℕ) PlanFault)
      → Reports day live.year live.text words before now last_before last_now made → (result : Result (List ℕ) ShowFault) → result ≡ told made
      → Shows day text words before now last_before last_now result
  shows_made live is made reports result told_so =
      let opened = opened_is (journal_of text) (fault_of None text) live is in
      subst (λ (r : Result (List ℕ) ShowFault). Shows day text words before now last_before last_now r) (sym told_so)
      (by_made opened.0 made (subst (λ (j : Journal). Reports day j.year j.text words before now last_before last_now made) (sym opened.1) reports))

pub shows_none : (day : ℕ) (text : List ℕ) (words : List (List ℕ)) (count : ℕ) (last : Option (List ℕ)) (e : OpenFault)
    → IfSome (open_cause e) (λ f. or_fault (journal_of text) (fault_of None text) ≡ Err f) → Shows day text words count count last last (Err (Load e))
shows_none day text words count last e h = (tells_so (journal_of text) (fault_of None text) e h, record { count = refl; told = refl })
