use Rattle.std.proofs.Common.{◌∙◌, arith}
use Rattle.text_store.proofs.Payloads.{short_part, part_in}
use Rattle.text_store.proofs.parsing.read_splice.Goals as goal

pub returns-then-payload-lt16 : goal.returns-then-payload-lt16
returns-then-payload-lt16 c = short_part c.args.payload.now c.if-payload-lt16.true

pub returns : goal.returns
returns c =
    part_in c.args.payload.now (record { at = c.number_at.result; removed = c.number_at-2.result; inserted = c.in_ok-copied.field-0 }) (omega (arith, c.if-payload-lt16.false))
    c.number_at.ensures c.number_at-2.ensures (c.in_ok-copied.ensures ∙ c.split_at.ensures.back)
