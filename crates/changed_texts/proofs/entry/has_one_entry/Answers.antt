use Rattle.std.proofs.Common.{◌==◌, count_by, sym, ap, ◌∙◌}
use Rattle.std.specs.List.{list_all}
use Rattle.changed_texts.specs.Meeting.{is_entry_or_gap}
use Rattle.changed_texts.specs.OneEntry.{is_entry_piece}
use Rattle.changed_texts.proofs.Testing.{none_entry, one_entry, tested_one}
use Rattle.changed_texts.proofs.entry.has_one_entry.Goals as goal

pub returns-clause-one : goal.returns-clause-one
returns-clause-one c = λ h.
    one_entry c.args.bytes.now c.in_ok-pieces.pieces c.in_ok-pieces.ensures.cut
    (sym (tested_one c.both.ensures c.both-apart.ensures c.both-kinds.ensures c.is_ended.ensures c.begins_indented.ensures
    (c.are_entries_or_gaps.ensures ∙ ap (list_all (λ q. is_entry_or_gap q.kind)) c.as_slice.ensures)
    (c.has_one.ensures ∙ ap (λ ps. count_by is_entry_piece ps == 1) c.as_slice-2.ensures)) ∙ h)

pub returns-clause-other : goal.returns-clause-other
returns-clause-other c = λ h.
    none_entry c.args.bytes.now c.in_ok-pieces.pieces c.in_ok-pieces.ensures.cut
    (sym (tested_one c.both.ensures c.both-apart.ensures c.both-kinds.ensures c.is_ended.ensures c.begins_indented.ensures
    (c.are_entries_or_gaps.ensures ∙ ap (list_all (λ q. is_entry_or_gap q.kind)) c.as_slice.ensures)
    (c.has_one.ensures ∙ ap (λ ps. count_by is_entry_piece ps == 1) c.as_slice-2.ensures)) ∙ h)
