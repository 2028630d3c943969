use Rattle.std.proofs.Common.{arith, sym, ◌∙◌}
use Rattle.entry_reader.proofs.TagSteps.{word_is, word_utf8}
use Rattle.entry_reader.proofs.tag.last_word.Goals as goal

pub returns-then-is_white-clause-value : goal.returns-then-is_white-clause-value
returns-then-is_white-clause-value c =
    c.split_at.ensures.back ∙ word_is c.args.text.now c.loop-start.start c.loop-start.invariant.within c.loop-start.invariant.solid (λ _. sym c.is_white.ensures ∙ c.if-is_white.true)

pub returns-then-is_white-clause-utf8 : goal.returns-then-is_white-clause-utf8
returns-then-is_white-clause-utf8 c = λ e.
    rw c.split_at.ensures.back (word_utf8 c.args.text.now c.loop-start.start c.loop-start-test.true c.loop-start.invariant.within (sym c.is_white.ensures ∙ c.if-is_white.true) e)

pub returns-clause-value : goal.returns-clause-value
returns-clause-value c = word_is c.args.text.now 0 (omega arith) (λ k _ lt. c.loop-start.invariant.solid k (omega arith) lt) (λ h. absurd (omega arith))
