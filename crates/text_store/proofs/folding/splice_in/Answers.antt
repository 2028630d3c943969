use Rattle.std.proofs.Common.{sym, arith}
use Rattle.text_store.proofs.Splicing.{splice_ends}
use Rattle.text_store.proofs.folding.splice_in.Goals as goal

pub returns : goal.returns
returns c =
    splice_ends c.args.text.now c.args.payload.now c.split_at.result.1.now c.number_at-at.result c.number_at-removed.result (sym c.number_at-at.ensures) (sym c.number_at-removed.ensures)
    (omega (arith, c.if-payload-lt16.false)) c.split_at.ensures.back c.replace.new.self c.replace.result c.replace.ensures
