-- Why a report isn't made, as an error tells it.
use Rattle.std.specs.Prelude.{Option, Some, None, Result, Ok, Err}
use Rattle.generated.specs.declared.fault.GenFault.{GenFault}
use Rattle.generated.specs.declared.fault.GenFault.TheVariants as gen_fault
use Rattle.report_commands.specs.declared.fault.WordsFault.{WordsFault}
use Rattle.report_commands.specs.declared.fault.WordsFault.TheVariants as words_fault
use Rattle.plan_commands.specs.declared.fault.PlanFault.{PlanFault}
use Rattle.plan_commands.specs.declared.fault.PlanFault.TheVariants as plan_fault

-- what is wrong with words, and want of memory by itself
abbrev pub of_words : WordsFault → PlanFault
of_words words_fault.Memory = plan_fault.Memory
of_words fault = plan_fault.Words fault

-- why rules make no book, and want of memory by itself
abbrev pub of_rules : GenFault → PlanFault
of_rules gen_fault.Memory = plan_fault.Memory
of_rules fault = plan_fault.Generated fault

-- what an error tells; want of memory tells nothing
abbrev pub plan_cause : PlanFault → Option PlanFault
plan_cause plan_fault.Memory = None
plan_cause fault = Some fault

-- what is answered without rules, as it is told with them
abbrev pub widened : {A : Type 0} → Result A WordsFault → Result A PlanFault
widened (Ok text) = Ok text
widened (Err fault) = Err (of_words fault)
