use Rattle.std.proofs.Common.{◌+◌, ◌≤◌, List, length, sym, ap, subst, ◌∙◌, arith}
use Rattle.std.specs.Prelude.{IfSome}
use Rattle.hl_base.specs.Lines.{lines_of}
use Rattle.book.specs.declared.item.Placed.{Placed}
use Rattle.text_ends.specs.Ends.{last_of}
use Rattle.text_ends.specs.Whole.{IsMeasured, last_behind, unclosed_behind}
use Rattle.text_ends.proofs.Ending.{ends_so}
use Rattle.text_ends.proofs.Measures.{few_lines_in, measured, roomy, stands_behind}
use Rattle.text_ends.proofs.kept.KeptEnd.grow.Goals as goal

pub last_behind-last-requires : goal.last_behind-last-requires
last_behind-last-requires c = roomy c.args.self.now c.args.bytes.now c.args.grown.now c.requires

pub unclosed_behind-unclosed-requires : goal.unclosed_behind-unclosed-requires
unclosed_behind-unclosed-requires c =
    subst (λ (ps : List Placed). IfSome (last_of ps) (λ placed. c.args.self.now.bytes ≤ placed.piece.at)) (sym c.as_slice-items.ensures)
    (stands_behind c.args.self.now c.args.bytes.now c.args.grown.now (c.requires).told)

pub lines_behind-lines-requires : goal.lines_behind-lines-requires
lines_behind-lines-requires c =
    omega (arith, few_lines_in c.args.self.now c.args.bytes.now c.args.grown.now c.requires, ((c.requires).may).few, c.count_lines-more.ensures.count, ap (λ t. length (lines_of t)) c.past.ensures)

pub overflow_add-size : goal.overflow_add-size
overflow_add-size c = omega (arith, ((c.requires).may).few)

pub returns-clause-value : goal.returns-clause-value
returns-clause-value c =
    let e = c.args.self.now in
    let g = c.args.grown.now in
    let last = c.last_behind-last.ensures ∙ ap (λ (ps : List Placed). last_behind (last_of ps) g.taken e.last) c.as_slice-items.ensures in
    let unclosed = c.unclosed_behind-unclosed.ensures ∙ ap (λ (ps : List Placed). unclosed_behind e c.args.bytes.now (last_of ps)) c.as_slice-items.ensures in
    let ended = c.ended_behind-ended.ensures in
    let more = c.count_lines-more.ensures.count ∙ ap (λ t. length (lines_of t)) c.past.ensures in
    let lines = c.lines_behind-lines.ensures ∙ ap (λ n. e.lines + g.lines + n) more in
    λ j. record { last = last j; ended = ended j; unclosed = unclosed j; lines = lines j; bytes = e.bytes + length c.args.bytes.now; context = e.context }

pub returns-clause-kept : goal.returns-clause-kept
returns-clause-kept c = ends_so c.args.self.now c.args.bytes.now c.args.grown.now _ c.requires (returns-clause-value c)

pub returns-clause-measured : goal.returns-clause-measured
returns-clause-measured c = subst IsMeasured (sym (returns-clause-value c)) (measured c.args.self.now c.args.bytes.now c.args.grown.now c.requires)
