use Rattle.std.proofs.Common.{sym, ◌∙◌}
use Rattle.text_ends.proofs.Reaching.{takes_lines, takes_none}
use Rattle.text_ends.proofs.taking.taken_from.Goals as goal

pub returns-then-joins-clause-value : goal.returns-then-joins-clause-value
returns-then-joins-clause-value c =
    takes_lines c.args.bytes.now c.args.start c.piece_end-end.result.0 c.piece_end-end.result.1 c.args.kind c.args.unclosed (sym c.joins.ensures ∙ c.if-joins.true) c.piece_end-end.ensures.end c.piece_end-end.ensures.lines

pub returns-else-joins-clause-value : goal.returns-else-joins-clause-value
returns-else-joins-clause-value c = takes_none c.args.bytes.now c.args.start c.args.kind c.args.unclosed (sym c.joins.ensures ∙ c.if-joins.false)
