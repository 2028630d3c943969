use Rattle.std.proofs.Common.{arith, sym, ◌∙◌}
use Rattle.std.proofs.lemmas.Str.{IsCharBoundary-start}
use Rattle.balance_rows.proofs.Parts.{part_boundary, part_is}
use Rattle.balance_rows.proofs.names.last_begin.Goals as goal

pub returns-then-is_colon-clause-place : goal.returns-then-is_colon-clause-place
returns-then-is_colon-clause-place c =
    part_is c.args.name.now c.loop-start.start c.loop-start.invariant.within c.loop-start.invariant.solid (λ _. sym c.is_colon.ensures ∙ c.if-is_colon.true)

pub returns-then-is_colon-clause-boundary : goal.returns-then-is_colon-clause-boundary
returns-then-is_colon-clause-boundary c =
    part_boundary c.args.name.now c.loop-start.start c.requires c.loop-start-test.true c.loop-start.invariant.within (sym c.is_colon.ensures ∙ c.if-is_colon.true)

pub returns-clause-place : goal.returns-clause-place
returns-clause-place c = part_is c.args.name.now 0 (omega arith) (λ k _ lt. c.loop-start.invariant.solid k (omega arith) lt) (λ h. absurd (omega arith))

pub returns-clause-boundary : goal.returns-clause-boundary
returns-clause-boundary c = IsCharBoundary-start c.args.name.now c.requires
