use Rattle.std.proofs.Common.{refl}
use Rattle.std.proofs.lemmas.Result.{err_from_is_err_and}
use Rattle.hl_base.specs.declared.items.Kind.TheVariants.{Gap}
use Rattle.parallel_reading.specs.Runs.{read_alike}
use Rattle.parallel_reading.proofs.Runs.{all_read, more_at, stops_at}
use Rattle.parallel_reading.proofs.run.read_run.Goals as goal

pub loop-piece-preserved : goal.loop-piece-preserved
loop-piece-preserved c =
    more_at c.args.context.now c.args.text.now c.bytes_of-bytes.result.now c.args.pieces.now c.loop-piece.piece-index (record { at = 0; len = 0; line = 0; kind = Gap }) c.loop-piece.items.items c.push.new.self.items c.in_ok-item.item
    (read_alike c.args.context.now c.args.text.now c.args.pieces.now) c.loop-piece-test.true c.bytes_of-bytes.ensures c.in_ok-item.ensures c.in_ok-push.ensures.items c.loop-piece.invariant

pub returns-in_err-item : goal.returns-in_err-item
returns-in_err-item c =
    let p = err_from_is_err_and c.from_residual-in_err-item.result c.from_residual-in_err-item.ensures.1 in
    rw (p.1, p.2)
    (stops_at c.in_err-item.field-0.0 c.args.context.now c.args.text.now c.bytes_of-bytes.result.now c.args.pieces.now c.loop-piece.piece-index (record { at = 0; len = 0; line = 0; kind = Gap }) c.loop-piece.items.items
    (read_alike c.args.context.now c.args.text.now c.args.pieces.now) c.loop-piece-test.true c.bytes_of-bytes.ensures c.in_err-item.ensures c.loop-piece.invariant)

pub returns : goal.returns
returns c =
    all_read c.args.context.now c.args.text.now c.args.pieces.now c.loop-piece.piece-index c.loop-piece.items.items c.loop-piece.items.items (read_alike c.args.context.now c.args.text.now c.args.pieces.now) c.loop-piece-test.false refl c.loop-piece.invariant
