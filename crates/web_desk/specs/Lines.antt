-- The lines in which replies say what was done or why not. Each ends with LF.
use Rattle.std.specs.Prelude.{ℕ, List}
use Rattle.error_lines.specs.Lines as lines
use Rattle.desk.specs.ReplyLines.{line_of}
use Rattle.desk.specs.declared.reply.Reply.{Reply}
use Rattle.desk.specs.declared.reply.Reply.TheVariants as reply
use Rattle.plan_commands.specs.declared.fault.PlanFault.{PlanFault}
use Rattle.plan_commands.specs.declared.fault.PlanFault.TheVariants as plan_fault
use Rattle.refusals.specs.Errors as errors
use Rattle.report_commands.specs.declared.fault.WordsFault.{WordsFault}
use Rattle.report_commands.specs.declared.fault.WordsFault.TheVariants as words

-- why words make no report; without a word there is no command
abbrev pub words_line : WordsFault → List ℕ
words_line (words.NoCommand word) = lines.usage word
words_line fault = errors.words_line fault

-- why a report isn't made
abbrev pub plan_line : PlanFault → List ℕ
plan_line (plan_fault.Words fault) = words_line fault
plan_line (plan_fault.Generated fault) = errors.rules_line fault
plan_line plan_fault.Memory = lines.memory

-- the body of a reply
abbrev pub body_of : Reply → List ℕ
body_of (reply.Text revision bytes) = bytes
body_of (reply.Words fault) = plan_line fault
body_of other = line_of other
