use Rattle.std.proofs.Common.{sym, ap, ◌∙◌}
use Rattle.std.specs.List.{list_all}
use Rattle.changed_texts.specs.Meeting.{is_entry_or_gap}
use Rattle.changed_texts.proofs.Testing.{entries_are, entries_none, tested_all}
use Rattle.changed_texts.proofs.entry.are_entries.Goals as goal

pub returns-clause-are : goal.returns-clause-are
returns-clause-are c = λ h.
    entries_are c.args.bytes.now c.in_ok-pieces.pieces c.in_ok-pieces.ensures.cut
    (sym (tested_all c.both.ensures c.both-ends.ensures c.is_ended.ensures c.begins_indented.ensures (c.are_entries_or_gaps.ensures ∙ ap (list_all (λ q. is_entry_or_gap q.kind)) c.as_slice.ensures)) ∙ h)

pub returns-clause-other : goal.returns-clause-other
returns-clause-other c = λ h.
    entries_none c.args.bytes.now c.in_ok-pieces.pieces c.in_ok-pieces.ensures.cut
    (sym (tested_all c.both.ensures c.both-ends.ensures c.is_ended.ensures c.begins_indented.ensures (c.are_entries_or_gaps.ensures ∙ ap (list_all (λ q. is_entry_or_gap q.kind)) c.as_slice.ensures)) ∙ h)
