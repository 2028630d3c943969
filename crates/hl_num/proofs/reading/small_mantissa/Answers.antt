use Rattle.std.proofs.Common.{ℕ, get_or, ap, sym, ◌∙◌}
use Rattle.hl_num.specs.Reading.{value_with}
use Rattle.hl_num.proofs.ReadingLemmas.{mantissa_of-more}
use Rattle.hl_num.proofs.reading.small_mantissa.Goals as goal

pub loop-byte-preserved : goal.loop-byte-preserved
loop-byte-preserved c =
    let byte = get_or c.args.text.now c.loop-byte.byte-index 0 in
    c.in_ok-value.ensures
    ∙ ap (λ (v : ℕ). value_with v byte) c.loop-byte.invariant
    ∙ sym (mantissa_of-more c.args.text.now c.loop-byte.byte-index c.loop-byte-test.true)
