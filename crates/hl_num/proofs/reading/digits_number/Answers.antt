use Rattle.std.proofs.Common.{arith}
use Rattle.hl_num.proofs.Digits.{more}
use Rattle.hl_num.proofs.reading.digits_number.Goals as goal

pub loop-byte-preserved : goal.loop-byte-preserved
loop-byte-preserved c =
    more c.args.text.now c.loop-byte.byte-index c.loop-byte.value c.saturating_add-value.result c.requires c.loop-byte-test.true c.loop-byte.invariant (omega (arith, c.saturating_add-value.ensures, c.saturating_mul.ensures, c.from.ensures))
