use Rattle.std.proofs.Common.{sym, ◌∙◌}
use Rattle.hl_base.proofs.WhiteEnds.{end_utf8, end_is, no_end_is, empty_utf8}
use Rattle.hl_base.proofs.white.before_white.Goals as goal

pub returns-then-not-is_white-clause-value : goal.returns-then-not-is_white-clause-value
returns-then-not-is_white-clause-value c =
    c.front.ensures ∙ end_is c.args.text.now c.loop-end.end c.loop-end.invariant.within c.loop-end.invariant.white (λ _. sym c.is_white.ensures ∙ c.if-not-is_white.true)

pub returns-then-not-is_white-clause-utf8 : goal.returns-then-not-is_white-clause-utf8
returns-then-not-is_white-clause-utf8 c = λ e. rw c.front.ensures (end_utf8 c.args.text.now c.loop-end.end c.loop-end.invariant.within c.loop-end.invariant.white e)

pub returns-clause-value : goal.returns-clause-value
returns-clause-value c = c.front-2.ensures ∙ no_end_is c.args.text.now c.loop-end.end c.loop-end-test.false c.loop-end.invariant.white

pub returns-clause-utf8 : goal.returns-clause-utf8
returns-clause-utf8 c = λ e. rw c.front-2.ensures empty_utf8
