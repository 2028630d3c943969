-- Which refusal is that of a cause.
use Rattle.std.specs.Prelude.{◌≡◌, ◌⊎◌, ℕ, List, Result, Ok, Err}
use Rattle.generated.specs.declared.fault.GenFault.{GenFault}
use Rattle.generated.specs.declared.fault.GenFault.TheVariants as gen_fault
use Rattle.plan_commands.specs.declared.fault.PlanFault.{PlanFault}
use Rattle.plan_commands.specs.declared.fault.PlanFault.TheVariants as plan_fault
use Rattle.report_commands.specs.declared.fault.WordsFault.{WordsFault}
use Rattle.report_commands.specs.declared.fault.WordsFault.TheVariants as words_fault
use Rattle.refusals.specs.Errors.{pattern_line, rules_line, rules_status, words_line, words_status}
use Rattle.refusals.specs.declared.refusal.PatternOf.{PatternOf}
use Rattle.refusals.specs.declared.refusal.PatternOf.TheVariants as pattern_of
use Rattle.refusals.specs.declared.refusal.Refusal.{Refusal}
use Rattle.refusals.specs.declared.refusal.Refusal.TheVariants as refusal

-- the statuses of refusals of a text that is there, by itself or by the words
abbrev pub IsJudgedStatus : ℕ → Type 0
IsJudgedStatus status = (status ≡ 1) ⊎ (status ≡ 7)

-- a refusal with this status and line, or want of memory
abbrev pub Refuses : Refusal → ℕ → List ℕ → Type 0
Refuses (refusal.Line status line) told_status told_line = (status ≡ told_status) × (line ≡ told_line)
Refuses (refusal.Pattern what line) told_status told_line = ⊥
Refuses refusal.ReadFault told_status told_line = ⊥
Refuses refusal.DiskFault told_status told_line = ⊥
Refuses refusal.Memory told_status told_line = Unit {0}

-- that of a pattern that isn't built, or want of memory
abbrev pub RefusesPattern : Refusal → PatternOf → Type 0
RefusesPattern (refusal.Line status line) told = ⊥
RefusesPattern (refusal.Pattern what line) told = (what ≡ told) × (line ≡ pattern_line told)
RefusesPattern refusal.ReadFault told = ⊥
RefusesPattern refusal.DiskFault told = ⊥
RefusesPattern refusal.Memory told = Unit {0}

-- that of a report that isn't made
abbrev pub RefusesReport : Refusal → WordsFault → Type 0
RefusesReport r (words_fault.PatternRefused word) = RefusesPattern r (pattern_of.Word word)
RefusesReport r words_fault.Memory = r ≡ refusal.Memory
RefusesReport r fault = Refuses r (words_status fault) (words_line fault)

-- that of rules that make no book
abbrev pub RefusesRules : Refusal → GenFault → Type 0
RefusesRules r (gen_fault.PatternRefused line) = RefusesPattern r (pattern_of.Rule line)
RefusesRules r gen_fault.Memory = r ≡ refusal.Memory
RefusesRules r fault = Refuses r (rules_status fault) (rules_line fault)

-- that of a report that isn't made with what rules make
abbrev pub RefusesPlan : Refusal → PlanFault → Type 0
RefusesPlan r (plan_fault.Words fault) = RefusesReport r fault
RefusesPlan r (plan_fault.Generated fault) = RefusesRules r fault
RefusesPlan r plan_fault.Memory = r ≡ refusal.Memory

-- the refusal of a text that is there has a status of its kind
abbrev pub IsOfText : Refusal → Type 0
IsOfText (refusal.Line status line) = IsJudgedStatus status
IsOfText (refusal.Pattern what line) = ⊥
IsOfText refusal.ReadFault = ⊥
IsOfText refusal.DiskFault = ⊥
IsOfText refusal.Memory = Unit {0}

-- and so has that of what is asked of it, but for a pattern that isn't built
abbrev pub IsOfReport : Result (List ℕ) Refusal → Type 0
IsOfReport (Ok output) = Unit {0}
IsOfReport (Err (refusal.Line status line)) = IsJudgedStatus status
IsOfReport (Err (refusal.Pattern what line)) = line ≡ pattern_line what
IsOfReport (Err refusal.ReadFault) = ⊥
IsOfReport (Err refusal.DiskFault) = ⊥
IsOfReport (Err refusal.Memory) = Unit {0}
