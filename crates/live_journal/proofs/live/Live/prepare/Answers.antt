use Rattle.std.proofs.Common.{◌≡◌, ℕ, ◌≤◌, List, length, Option, None, Ok, ap, sym, subst, ◌∙◌}
use Rattle.std.specs.Str.{bytes_eq}
use Rattle.std.proofs.lemmas.Result.{err_from_is_err_and}
use Rattle.hl_base.specs.Items.{items_of}
use Rattle.hl_base.specs.declared.items.Piece.{Piece}
use Rattle.loaded_texts.specs.Keeping.{pieces_at}
use Rattle.loaded_texts.proofs.Pieces.{pieces_read}
use Rattle.text_ends.specs.declared.kept.KeptEnd.{KeptEnd}
use Rattle.live_journal.specs.Edits.{applied, has_open_block, splice_of, spliced}
use Rattle.live_journal.specs.Loading.{fault_of}
use Rattle.live_journal.specs.Journals.{Journal}
use Rattle.live_journal.specs.Refusals.{TellsRefusal, no_such_item, not_transactions}
use Rattle.live_journal.proofs.Changes.{spliced_as}
use Rattle.live_journal.proofs.Checking.{none_refused}
use Rattle.live_journal.proofs.Verdicts.{accepted, by_base, by_entry, by_item, by_text, planned_as}
use Rattle.live_journal.proofs.live.Live.prepare.Goals as goal

pub returns-in_err-judge_base-clause-value : goal.returns-in_err-judge_base-clause-value
returns-in_err-judge_base-clause-value g c =
    let p = err_from_is_err_and c.from_residual.result c.from_residual.ensures.1 in
    let j : Journal = record { text = c.self.inside.text; year = c.self.inside.year; revision = c.self.inside.revision } in
    rw (p.1, p.2, ← c.self.view_is) (by_base j c.args.edit.now c.in_err-judge_base.field-0.0 c.in_err-judge_base.ensures)

pub returns-in_err-judge_item-clause-value : goal.returns-in_err-judge_item-clause-value
returns-in_err-judge_item-clause-value g c =
    let p = err_from_is_err_and c.from_residual-in_err-judge_item.result c.from_residual-in_err-judge_item.ensures.1 in
    let j : Journal = record { text = c.self.inside.text; year = c.self.inside.year; revision = c.self.inside.revision } in
    let cut : pieces_at c.as_slice-items.result.now ≡ items_of c.self.inside.text = ap pieces_at c.as_slice-items.ensures ∙ pieces_read c.self.inside.year c.self.inside.text c.self.inside.loaded.items c.self.invariant.read in
    let pieces = ap (λ (ps : List Piece). no_such_item ps c.args.edit.now) cut in
    rw (p.1, p.2, ← c.self.view_is) (by_item j c.args.edit.now c.in_err-judge_item.field-0.0 c.in_ok-judge_base.ensures (rw pieces at c.in_err-judge_item.ensures))

pub returns-in_err-judge_entry-clause-value : goal.returns-in_err-judge_entry-clause-value
returns-in_err-judge_entry-clause-value g c =
    let p = err_from_is_err_and c.from_residual-in_err-judge_entry.result c.from_residual-in_err-judge_entry.ensures.1 in
    let j : Journal = record { text = c.self.inside.text; year = c.self.inside.year; revision = c.self.inside.revision } in
    let cut : pieces_at c.as_slice-items.result.now ≡ items_of c.self.inside.text = ap pieces_at c.as_slice-items.ensures ∙ pieces_read c.self.inside.year c.self.inside.text c.self.inside.loaded.items c.self.invariant.read in
    let items = ap (λ (ps : List Piece). no_such_item ps c.args.edit.now) cut in
    let entries = ap (λ (ps : List Piece). not_transactions ps c.args.edit.now) cut in
    rw (p.1, p.2, ← c.self.view_is) (by_entry j c.args.edit.now c.in_err-judge_entry.field-0.0 c.in_ok-judge_base.ensures (rw items at c.in_ok-judge_item.ensures) (rw entries at c.in_err-judge_entry.ensures))

pub splice_of-requires-clause-cut : goal.splice_of-requires-clause-cut
splice_of-requires-clause-cut g c =
    ap pieces_at c.as_slice-items.ensures ∙ pieces_read c.self.inside.year c.self.inside.text c.self.inside.loaded.items c.self.invariant.read
    ∙ ap items_of (sym c.as_slice-text.ensures)

pub splice_of-requires-clause-unclosed : goal.splice_of-requires-clause-unclosed
splice_of-requires-clause-unclosed g c =
    ap (λ (e : KeptEnd). e.unclosed) c.self.invariant.of_text.end ∙ ap has_open_block (sym c.as_slice-text.ensures)

pub made-requires-clause-splice : goal.made-requires-clause-splice
made-requires-clause-splice g c =
    c.in_ok-splice.ensures.value ∙ ap (λ (t : List ℕ). splice_of t c.args.edit.now) (c.as_slice-text.ensures ∙ ap (λ (x : Journal). x.text) c.self.view_is)

pub made-requires-clause-new : goal.made-requires-clause-new
made-requires-clause-new g c =
    c.as_slice-2.ensures ∙ c.in_ok-new.ensures ∙ spliced_as c.as_slice-text.result.now c.self.inside.text c.in_ok-splice.splice c.args.edit.now c.as_slice-text.ensures c.in_ok-splice.ensures.value
    ∙ ap (λ (x : Journal). applied x.text c.args.edit.now) c.self.view_is

pub made-requires-clause-item : goal.made-requires-clause-item
made-requires-clause-item g c =
    let cut : pieces_at c.as_slice-items.result.now ≡ items_of c.self.inside.text = ap pieces_at c.as_slice-items.ensures ∙ pieces_read c.self.inside.year c.self.inside.text c.self.inside.loaded.items c.self.invariant.read in
    ap (λ (ps : List Piece). no_such_item ps c.args.edit.now) (sym (cut ∙ ap (λ (x : Journal). items_of x.text) c.self.view_is)) ∙ c.in_ok-judge_item.ensures

pub made-requires-clause-entries : goal.made-requires-clause-entries
made-requires-clause-entries g c =
    let cut : pieces_at c.as_slice-items.result.now ≡ items_of c.self.inside.text = ap pieces_at c.as_slice-items.ensures ∙ pieces_read c.self.inside.year c.self.inside.text c.self.inside.loaded.items c.self.invariant.read in
    ap (λ (ps : List Piece). not_transactions ps c.args.edit.now) (sym (cut ∙ ap (λ (x : Journal). items_of x.text) c.self.view_is)) ∙ c.in_ok-judge_entry.ensures

pub returns-in_err-made-clause-value : goal.returns-in_err-made-clause-value
returns-in_err-made-clause-value g c =
    let p = err_from_is_err_and c.from_residual-in_err-made.result c.from_residual-in_err-made.ensures.1 in
    let j : Journal = record { text = c.self.inside.text; year = c.self.inside.year; revision = c.self.inside.revision } in
    let cut : pieces_at c.as_slice-items.result.now ≡ items_of c.self.inside.text = ap pieces_at c.as_slice-items.ensures ∙ pieces_read c.self.inside.year c.self.inside.text c.self.inside.loaded.items c.self.invariant.read in
    let items = ap (λ (ps : List Piece). no_such_item ps c.args.edit.now) cut in
    let entries = ap (λ (ps : List Piece). not_transactions ps c.args.edit.now) cut in
    let text : c.as_slice-2.result.now ≡ applied c.self.inside.text c.args.edit.now =
    c.as_slice-2.ensures ∙ c.in_ok-new.ensures ∙ spliced_as c.as_slice-text.result.now c.self.inside.text c.in_ok-splice.splice c.args.edit.now c.as_slice-text.ensures c.in_ok-splice.ensures.value in
    let year : c.args.self.now.year ≡ c.self.inside.year = ap (λ (x : Journal). x.year) (sym c.self.view_is) in
    let fails = subst (λ (t : List ℕ). TellsRefusal c.in_err-made.field-0.0 (fault_of c.self.inside.year t)) text
    (subst (λ (y : Option ℕ). TellsRefusal c.in_err-made.field-0.0 (fault_of y c.as_slice-2.result.now)) year c.in_err-made.ensures.comes.fault) in
    rw (p.1, p.2, ← c.self.view_is) (by_text j c.args.edit.now c.in_err-made.field-0.0 c.in_ok-judge_base.ensures (rw items at c.in_ok-judge_item.ensures) (rw entries at c.in_ok-judge_entry.ensures) fails)

pub returns-clause-value : goal.returns-clause-value
returns-clause-value g c =
    let j : Journal = record { text = c.self.inside.text; year = c.self.inside.year; revision = c.self.inside.revision } in
    let cut : pieces_at c.as_slice-items.result.now ≡ items_of c.self.inside.text = ap pieces_at c.as_slice-items.ensures ∙ pieces_read c.self.inside.year c.self.inside.text c.self.inside.loaded.items c.self.invariant.read in
    let items = ap (λ (ps : List Piece). no_such_item ps c.args.edit.now) cut in
    let entries = ap (λ (ps : List Piece). not_transactions ps c.args.edit.now) cut in
    let text : c.as_slice-2.result.now ≡ applied c.self.inside.text c.args.edit.now =
    c.as_slice-2.ensures ∙ c.in_ok-new.ensures ∙ spliced_as c.as_slice-text.result.now c.self.inside.text c.in_ok-splice.splice c.args.edit.now c.as_slice-text.ensures c.in_ok-splice.ensures.value in
    let same : c.are_same-same.result ≡ bytes_eq c.in_ok-new.new c.self.inside.text =
    c.are_same-same.ensures ∙ ap (λ (x : List ℕ). bytes_eq x c.as_slice-text.result.now) c.as_slice.ensures ∙ ap (bytes_eq c.in_ok-new.new) c.as_slice-text.ensures in
    let splice = c.in_ok-splice.ensures.value ∙ ap (λ (x : List ℕ). splice_of x c.args.edit.now) c.as_slice-text.ensures in
    let plan = planned_as j c.args.edit.now c.of.result.value c.in_ok-new.new c.in_ok-splice.splice c.are_same-same.result (c.of.ensures ∙ c.in_ok-made.ensures.stays ∙ sym c.self.view_is) (sym c.as_slice-2.ensures ∙ text) splice same in
    let year : c.args.self.now.year ≡ c.self.inside.year = ap (λ (x : Journal). x.year) (sym c.self.view_is) in
    let loads = subst (λ (t : List ℕ). fault_of c.self.inside.year t ≡ None) text
    (subst (λ (y : Option ℕ). fault_of y c.as_slice-2.result.now ≡ None) year c.in_ok-made.ensures.comes.loads) in
    let accept = accepted j c.args.edit.now c.in_ok-judge_base.ensures (rw items at c.in_ok-judge_item.ensures) (rw entries at c.in_ok-judge_entry.ensures) loads in
    rw (← c.self.view_is) (accept ∙ ap Ok plan)

pub returns-clause-few : goal.returns-clause-few
returns-clause-few g c = subst (λ (t : List ℕ). length t ≤ 16777216) c.as_slice-2.ensures c.in_ok-made.ensures.comes.few

pub returns-clause-counts : goal.returns-clause-counts
returns-clause-counts g c = c.in_ok-made.ensures.comes.counts

pub returns-in_err-judge_base-clause-refused : goal.returns-in_err-judge_base-clause-refused
returns-in_err-judge_base-clause-refused g c =
    let p = err_from_is_err_and c.from_residual.result c.from_residual.ensures.1 in
    rw p.1 (none_refused c.args.self.now c.args.edit.now c.args.steps.now)

pub returns-in_err-judge_item-clause-refused : goal.returns-in_err-judge_item-clause-refused
returns-in_err-judge_item-clause-refused g c =
    let p = err_from_is_err_and c.from_residual-in_err-judge_item.result c.from_residual-in_err-judge_item.ensures.1 in
    rw p.1 (none_refused c.args.self.now c.args.edit.now c.args.steps.now)

pub returns-in_err-judge_entry-clause-refused : goal.returns-in_err-judge_entry-clause-refused
returns-in_err-judge_entry-clause-refused g c =
    let p = err_from_is_err_and c.from_residual-in_err-judge_entry.result c.from_residual-in_err-judge_entry.ensures.1 in
    rw p.1 (none_refused c.args.self.now c.args.edit.now c.args.steps.now)

pub returns-in_err-splice-clause-refused : goal.returns-in_err-splice-clause-refused
returns-in_err-splice-clause-refused g c =
    let p = err_from_is_err_and c.from_residual-in_err-splice.result c.from_residual-in_err-splice.ensures.1 in
    rw p.1 (none_refused c.args.self.now c.args.edit.now c.args.steps.now)

pub returns-in_err-new-clause-refused : goal.returns-in_err-new-clause-refused
returns-in_err-new-clause-refused g c =
    let p = err_from_is_err_and c.from_residual-in_err-new.result c.from_residual-in_err-new.ensures.1 in
    rw p.1 (none_refused c.args.self.now c.args.edit.now c.args.steps.now)

pub returns-in_err-made-clause-refused : goal.returns-in_err-made-clause-refused
returns-in_err-made-clause-refused g c =
    let p = err_from_is_err_and c.from_residual-in_err-made.result c.from_residual-in_err-made.ensures.1 in
    rw p.1 c.in_err-made.ensures.comes.refused
