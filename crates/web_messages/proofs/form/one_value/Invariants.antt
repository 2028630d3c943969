use Rattle.std.proofs.Common.{◌≡◌, drop, length}
use Rattle.web_messages.specs.Forms.{values_at}
use Rattle.web_messages.proofs.form.one_value.Given as goal

abbrev pub invariant-loop-i : goal.invariant-loop-i
invariant-loop-i l = (values_at l.name (drop l.i l.all) ≡ values_at l.name l.all) × (l.i-end ≡ length l.all)
