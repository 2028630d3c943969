use Rattle.std.proofs.Common.{inl, inr, arith}
use Rattle.follower.proofs.standing.standing_of.Goals as goal

pub returns-then-frame-eq67 : goal.returns-then-frame-eq67
returns-then-frame-eq67 c = record { later = omega arith; next = inl c.if-frame-eq67.true }

pub returns-then-got-had-gt-STEP : goal.returns-then-got-had-gt-STEP
returns-then-got-had-gt-STEP c = (omega arith, c.if-frame-eq67.false)

pub returns : goal.returns
returns c = record { later = omega arith; next = inr (omega arith) }
