-- The line that says why a text is no file of rules.
use Rattle.std.specs.Prelude.{ℕ, List}
use Rattle.csv_rules.specs.declared.faults.RulesFault.{RulesFault}
use Rattle.csv_rules.specs.declared.faults.RulesFault.TheVariants as rules_fault
use Rattle.error_lines.specs.Lines as lines

abbrev pub rules_line : RulesFault → List ℕ
rules_line (rules_fault.BadRule line) = lines.bad_rule line
rules_line (rules_fault.PatternRefused line) = lines.refused_rule_pattern line
rules_line rules_fault.Memory = lines.memory
