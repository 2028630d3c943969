use Rattle.std.proofs.Common.{◌++◌, rules, arith}
use Rattle.std.proofs.lemmas.Grind.{common_steps}
use Rattle.std.proofs.lemmas.Result.{err_from_is_err_and}
use Rattle.hl_base.specs.declared.items.Kind.TheVariants.{Gap}
use Rattle.journal_reader.proofs.Whole.{still_bound}
use Rattle.text_ends.specs.Ends.{items_at}
use Rattle.changed_texts.proofs.Several.{begun, done, one_more, stopped}
use Rattle.changed_texts.proofs.entries.read_pieces.Goals as goal

pub loop-piece-init : goal.loop-piece-init
loop-piece-init g c = record {
  kept = begun c.args.year c.args.before.now c.args.text.now c.args.pieces.now c.in_ok-items.items.items c.in_ok-context.context c.in_ok-items.ensures.items c.in_ok-context.ensures;
  read = omega arith;
  others = search rules;
}

pub loop-piece-preserved : goal.loop-piece-preserved
loop-piece-preserved g c = record {
  kept = one_more c.args.year c.args.before.now c.args.text.now c.bytes_of-bytes.result.now c.loop-piece.context c.after.new.self c.args.pieces.now c.loop-piece.piece-index (record { at = 0; len = 0; line = 0; kind = Gap }) c.loop-piece.items.items c.push.new.self.items c.in_ok-item.item
      c.loop-piece.invariant.kept c.loop-piece-test.true c.bytes_of-bytes.ensures c.in_ok-item.ensures.value c.in_ok-push.ensures.items
      (c.in_ok-after.ensures.items c.args.year (items_at (c.args.before.now ++ c.loop-piece.items.items)) c.loop-piece.invariant.kept.context_is);
  read = grind (arith, common_steps);
  others = search rules;
}

pub returns-in_err-item-clause-value : goal.returns-in_err-item-clause-value
returns-in_err-item-clause-value g c =
    let p = err_from_is_err_and c.from_residual-in_err-item.result c.from_residual-in_err-item.ensures.1 in
    rw (p.1, p.2)
    (stopped c.in_err-item.field-0.0 c.args.year c.args.before.now c.args.text.now c.bytes_of-bytes.result.now c.loop-piece.context c.args.pieces.now c.loop-piece.piece-index (record { at = 0; len = 0; line = 0; kind = Gap }) c.loop-piece.items.items
    c.loop-piece.invariant.kept c.loop-piece-test.true c.bytes_of-bytes.ensures c.in_err-item.ensures.value)

pub returns-in_err-item-clause-bound : goal.returns-in_err-item-clause-bound
returns-in_err-item-clause-bound g c = rw c.in_err-item.ensures.steps (still_bound c.args.pieces.now c.loop-piece.piece-index (record { at = 0; len = 0; line = 0; kind = Gap }) c.args.text.now c.bytes_of-bytes.result.now c.args.steps.now.bytes_read c.loop-piece.steps.bytes_read c.loop-piece-test.true c.bytes_of-bytes.ensures c.loop-piece.invariant.read)

pub returns-in_err-after-clause-bound : goal.returns-in_err-after-clause-bound
returns-in_err-after-clause-bound g c = rw c.in_ok-item.ensures.steps (still_bound c.args.pieces.now c.loop-piece.piece-index (record { at = 0; len = 0; line = 0; kind = Gap }) c.args.text.now c.bytes_of-bytes.result.now c.args.steps.now.bytes_read c.loop-piece.steps.bytes_read c.loop-piece-test.true c.bytes_of-bytes.ensures c.loop-piece.invariant.read)

pub returns-in_err-push-clause-bound : goal.returns-in_err-push-clause-bound
returns-in_err-push-clause-bound g c = rw c.in_ok-item.ensures.steps (still_bound c.args.pieces.now c.loop-piece.piece-index (record { at = 0; len = 0; line = 0; kind = Gap }) c.args.text.now c.bytes_of-bytes.result.now c.args.steps.now.bytes_read c.loop-piece.steps.bytes_read c.loop-piece-test.true c.bytes_of-bytes.ensures c.loop-piece.invariant.read)

pub returns-clause-value : goal.returns-clause-value
returns-clause-value g c =
    done c.args.year c.args.before.now c.args.text.now c.args.pieces.now c.loop-piece.piece-index c.loop-piece.items.items c.from_vec.result c.loop-piece.context c.loop-piece.invariant.kept c.loop-piece-test.false c.from_vec.ensures
