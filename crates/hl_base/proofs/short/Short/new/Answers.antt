use Rattle.std.proofs.Common.{refl, arith}
use Rattle.hl_base.proofs.Padding.{none_utf8}
use Rattle.hl_base.proofs.short.Short.new.Goals as goal

pub invariant_of-result : goal.invariant_of-result
invariant_of-result c = (omega arith, refl, none_utf8)
