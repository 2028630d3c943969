use Rattle.std.proofs.Common.{sym, ap, ◌∙◌}
use Rattle.changed_texts.specs.Replacing.{is_one_entry}
use Rattle.changed_texts.proofs.Testing.{is_none, is_one, tested}
use Rattle.changed_texts.proofs.entry.is_entry.Goals as goal

pub returns-clause-one : goal.returns-clause-one
returns-clause-one c = λ h.
    is_one c.args.bytes.now c.in_ok-pieces.pieces c.in_ok-pieces.ensures.cut c.in_ok-pieces.ensures.whole
    (sym (tested c.both.ensures c.ends_line.ensures (c.is_one_entry.ensures ∙ ap is_one_entry c.as_slice.ensures)) ∙ h)

pub returns-clause-other : goal.returns-clause-other
returns-clause-other c = λ h.
    is_none c.args.bytes.now c.in_ok-pieces.pieces c.in_ok-pieces.ensures.cut
    (sym (tested c.both.ensures c.ends_line.ensures (c.is_one_entry.ensures ∙ ap is_one_entry c.as_slice.ensures)) ∙ h)
