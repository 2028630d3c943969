use Rattle.std.proofs.Common.{refl}
use Rattle.written_logs.proofs.laws.hours_own.Goals as goal

pub returns : goal.returns
returns c year = λ value. refl
