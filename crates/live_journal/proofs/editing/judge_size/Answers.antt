use Rattle.std.proofs.Common.{◌≡◌, ◌≤◌, length, refl, sym, ap, subst, ◌∙◌, arith}
use Rattle.live_journal.proofs.Limits.{long_text, not_past}
use Rattle.live_journal.proofs.editing.judge_size.Goals as goal

pub returns-then-is_past-clause-fault : goal.returns-then-is_past-clause-fault
returns-then-is_past-clause-fault c = λ year. long_text year c.args.new.now (length c.args.new.now) refl (sym c.is_past.ensures ∙ c.if-is_past.true)

pub returns-clause-good : goal.returns-clause-good
returns-clause-good c = omega (arith, not_past 16777216 (length c.args.new.now) (sym c.is_past.ensures ∙ c.if-is_past.false))
