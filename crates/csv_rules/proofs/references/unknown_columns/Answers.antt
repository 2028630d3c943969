use Rattle.std.proofs.Common.{rules, ◌≡◌, List, [], Option, IfOk, length, ap, sym, ◌∙◌, subst, arith}
use Rattle.std.proofs.lemmas.List.{nil_from_length}
use Rattle.entry_reader.specs.Lines.{contents_of}
use Rattle.csv_rules.specs.Drafts.{progress_of}
use Rattle.csv_rules.specs.References.{references_of, unknown_at, unknown_columns}
use Rattle.csv_rules.specs.declared.kinds.Sheet.{Sheet}
use Rattle.csv_rules.specs.declared.references.Reference.{Reference}
use Rattle.csv_rules.proofs.Progresses.{reached_by}
use Rattle.csv_rules.proofs.ReferenceLaws.{at_end, line_more, none_bad, taken_form, taken_none}
use Rattle.csv_rules.proofs.references.unknown_columns.Goals as goal

pub loop-rest-preserved : goal.loop-rest-preserved
loop-rest-preserved c =
    let text = c.args.text.now in
    let line = c.loop-rest.line in
    let content = c.cut_line.result.0.now in
    let later = c.cut_line.result.1.now in
    let p = progress_of c.loop-rest.draft in
    let q = progress_of c.take_line.new.draft in
    let found = c.loop-rest.references.items in
    let now = c.take_line.new.references.items in
    let form = taken_form c.in_ok-taken.taken line content p q found now c.if-not-taken.false c.in_ok-taken.ensures in
    record {
      reached = reached_by text c.loop-rest.rest.now content later line p q form.form c.loop-rest.invariant.reached c.cut_line.ensures.cut form.said form.added;
      so_far = line_more (references_of text) found now p q line (contents_of c.loop-rest.rest.now) (contents_of later) content form.form c.loop-rest.invariant.so_far c.cut_line.ensures.cut form.said form.references form.added;
      room = omega (arith, c.cut_line.ensures.shorter, c.loop-rest.invariant.room);
    }

pub returns-then-not-taken : goal.returns-then-not-taken
returns-then-not-taken c =
    let content = c.cut_line.result.0.now in
    let later = c.cut_line.result.1.now in
    let line = c.loop-rest.line in
    let p = progress_of c.loop-rest.draft in
    let q = progress_of c.take_line.new.draft in
    let none = taken_none c.in_ok-taken.taken line content p q c.loop-rest.references.items c.take_line.new.references.items c.if-not-taken.true c.in_ok-taken.ensures in
    c.new.ensures ∙ sym (none_bad c.args.text.now c.loop-rest.rest.now content later line p c.loop-rest.invariant.reached c.cut_line.ensures.cut none)

pub returns : goal.returns
returns c =
    let text = c.args.text.now in
    let rest = c.loop-rest.rest.now in
    let p = progress_of c.loop-rest.draft in
    let found = c.loop-rest.references.items in
    let over : length rest ≡ 0 = search rules in
    let none : contents_of rest ≡ [] = ap contents_of (nil_from_length rest over) in
    let whole : unknown_at c.in_ok-sheet.sheet c.as_slice.result.now ≡ unknown_columns text =
    ap (λ (l : List Reference). unknown_at c.in_ok-sheet.sheet l) c.as_slice.ensures.value
    ∙ (ap (λ (o : Option Sheet). unknown_at o found) c.in_ok-sheet.ensures
    ∙ sym (at_end text rest c.loop-rest.line p found c.loop-rest.invariant.reached c.loop-rest.invariant.so_far none)) in
    subst (λ (l : List Reference). IfOk c.unknown_at.result (λ x. x ≡ l)) whole c.unknown_at.ensures
