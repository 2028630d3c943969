use Rattle.std.proofs.Common.{◌≡◌, ℕ, ◌^◌, nat_lt, false, get_or, ap, sym, ◌∙◌}
use Rattle.hl_num.specs.Reading.{mantissa_of, value_with}
use Rattle.hl_num.proofs.ReadingLemmas.{mantissa_of-more, mantissa_of-large}
use Rattle.hl_num.proofs.reading.mantissa.Goals as goal

pub returns-in_err-value : goal.returns-in_err-value
returns-in_err-value c =
    let large : nat_lt (mantissa_of c.args.text.now) (2 ^ 127) ≡ false =
    mantissa_of-large c.args.text.now c.loop-byte.byte-index c.loop-byte.value (2 ^ 127) c.loop-byte-test.true c.loop-byte.invariant.so_far c.in_err-value.ensures.large in
    rw large c.from_residual.ensures

pub loop-byte-preserved : goal.loop-byte-preserved
loop-byte-preserved c =
    let byte = get_or c.args.text.now c.loop-byte.byte-index 0 in
    record {
      so_far =
          c.in_ok-value.ensures.value
          ∙ ap (λ (v : ℕ). value_with v byte) c.loop-byte.invariant.so_far
          ∙ sym (mantissa_of-more c.args.text.now c.loop-byte.byte-index c.loop-byte-test.true);
      small = c.in_ok-value.ensures.small;
    }
