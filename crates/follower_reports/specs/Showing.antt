-- What a report over a follower's text answers.
use Rattle.std.specs.Prelude.{◌≡◌, ℕ, List, Option, None, Result, Ok, Err}
use Rattle.live_journal.specs.Loading.{Tells, fault_of}
use Rattle.query_terms.specs.Making.{Stays}
use Rattle.plan_commands.specs.declared.fault.PlanFault.{PlanFault}
use Rattle.desk.specs.Reports.{Reports}
use Rattle.follower_reports.specs.declared.report.ShowFault.{ShowFault}
use Rattle.follower_reports.specs.declared.report.ShowFault.TheVariants.{Load, Report}

-- a report that was made, or why none was
abbrev pub told : Result (List ℕ) PlanFault → Result (List ℕ) ShowFault
told (Ok output) = Ok output
told (Err fault) = Err (Report fault)

-- The text makes a journal, and the report is the one that its words give over the text without a year, or why there is none; or the
-- text makes no journal, for this, and the maker of patterns wasn't asked.
abbrev pub Shows : ℕ → List ℕ → List (List ℕ) → ℕ → ℕ → Option (List ℕ) → Option (List ℕ) → Result (List ℕ) ShowFault → Type 0
Shows day text words before now last_before last_now (Ok output) =
    (fault_of None text ≡ None) × Reports day None text words before now last_before last_now (Ok output)
Shows day text words before now last_before last_now (Err (Report fault)) =
    (fault_of None text ≡ None) × Reports day None text words before now last_before last_now (Err fault)
Shows day text words before now last_before last_now (Err (Load fault)) =
    Tells fault (fault_of None text) × Stays before now last_before last_now
