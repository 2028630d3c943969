use Rattle.entry_reader.proofs.Texts.{total_utf8, unit_utf8}
use Rattle.entry_reader.proofs.amount.cost_at.Goals as goal

pub amount_at-requires : goal.amount_at-requires
amount_at-requires c = c.after_white.ensures.utf8 (rw (c.split_at.ensures.back, c.total_mark-total.ensures.value) (total_utf8 c.args.text.now c.requires))

pub amount_at-requires-then-unit-gt0 : goal.amount_at-requires-then-unit-gt0
amount_at-requires-then-unit-gt0 c =
    c.after_white-then-unit-gt0.ensures.utf8 (rw (c.split_at-then-unit-gt0.ensures.back, c.unit_mark-unit.ensures.value) (unit_utf8 c.args.text.now c.requires))
