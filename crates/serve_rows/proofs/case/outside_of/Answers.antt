use Rattle.std.proofs.Common.{refl, arith}
use Rattle.serve_rows.proofs.case.outside_of.Goals as goal

pub returns-clause-output : goal.returns-clause-output
returns-clause-output c = λ n few. c.in_ok-output.ensures.sound refl n (omega (arith, few))

pub returns-clause-error : goal.returns-clause-error
returns-clause-error c = λ n few. c.in_ok-err.ensures.sound refl n (omega (arith, few))
