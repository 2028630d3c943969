use Rattle.std.proofs.Common.{ℕ, ap, sym, ◌∙◌, arith}
use Rattle.entry_reader.proofs.Lines.{few_lines}
use Rattle.text_ends.specs.Told.{utf8_fault}
use Rattle.text_ends.proofs.Faults.{behind_few, growth_none, growth_some}
use Rattle.text_ends.proofs.reading.growth_fault.Goals as goal

pub utf8_fault-requires : goal.utf8_fault-requires
utf8_fault-requires c = omega (arith, c.line_behind.ensures, behind_few c.args.end.now, few_lines c.args.more.now, c.requires.lines, c.requires.few)

pub returns-in-Some : goal.returns-in-Some
returns-in-Some c =
    sym (growth_some c.args.end.now c.args.more.now c.in-Some.fault (ap (λ (n : ℕ). utf8_fault n c.args.more.now) (sym c.line_behind.ensures) ∙ sym c.utf8_fault.ensures ∙ c.in-Some.is))

pub returns-in-None : goal.returns-in-None
returns-in-None c =
    c.outgrown.ensures ∙ sym (growth_none c.args.end.now c.args.more.now (ap (λ (n : ℕ). utf8_fault n c.args.more.now) (sym c.line_behind.ensures) ∙ sym c.utf8_fault.ensures ∙ c.in-None.is))
