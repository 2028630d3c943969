use Rattle.std.proofs.Common.{ℕ, take, drop, nat_lt, ◌^◌, ◌+◌, ap, sym, ◌∙◌}
use Rattle.std.specs.Int.{w128}
use Rattle.std.proofs.lemmas.Int.{to_z_pos}
use Rattle.hl_num.specs.Reading.{mantissa_of}
use Rattle.hl_num.proofs.ReadingLemmas.{number_with-unwritten, number_with-large, number_with-some, test-none, test-below}
use Rattle.hl_num.proofs.reading.number_with.Goals as goal

pub returns-then-not-is_written : goal.returns-then-not-is_written
returns-then-not-is_written c =
    let text = c.args.text.now in
    let len = c.whole_len-end.ensures.len in
    number_with-unwritten text (take c.whole_len-end.result text) c.after-decimals.result.now c.args.mark
    (ap (λ (e : ℕ). take e text) len)
    (c.after-decimals.ensures ∙ ap (λ (e : ℕ). drop (e + 1) text) len)
    (sym c.is_written.ensures.written ∙ c.if-not-is_written.true)

pub returns-in_err-mantissa : goal.returns-in_err-mantissa
returns-in_err-mantissa c =
    let text = c.args.text.now in
    let len = c.whole_len-end.ensures.len in
    c.from_residual.ensures
    ∙ number_with-large text (take c.whole_len-end.result text) c.after-decimals.result.now c.args.mark
    (ap (λ (e : ℕ). take e text) len)
    (c.after-decimals.ensures ∙ ap (λ (e : ℕ). drop (e + 1) text) len)
    (sym c.is_written.ensures.written ∙ c.if-not-is_written.false)
    (test-none (nat_lt (mantissa_of text) (2 ^ 127)) (mantissa_of text) c.in_err-mantissa.ensures)

pub returns : goal.returns
returns c =
    let text = c.args.text.now in
    let len = c.whole_len-end.ensures.len in
    let told = test-below (mantissa_of text) c.in_ok-mantissa.field-0 (2 ^ 127) c.in_ok-mantissa.ensures in
    rw (to_z_pos w128 c.in_ok-mantissa.field-0 told.2, told.1, c.first_mark.ensures, c.first_size.ensures, c.rest_size.ensures)
    (sym
    (number_with-some text (take c.whole_len-end.result text) c.after-decimals.result.now c.args.mark
    (ap (λ (e : ℕ). take e text) len)
    (c.after-decimals.ensures ∙ ap (λ (e : ℕ). drop (e + 1) text) len)
    (sym c.is_written.ensures.written ∙ c.if-not-is_written.false)
    told.0))
