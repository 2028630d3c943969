use Rattle.std.proofs.Common.{List, [], ◌∷◌, ◌++◌, refl, ap, sym, ◌∙◌, rules, arith}
use Rattle.std.proofs.lemmas.Grind.{common_steps}
use Rattle.std.proofs.lemmas.Result.{err_from_is_err_and}
use Rattle.hl_base.specs.declared.items.Piece.{Piece}
use Rattle.hl_base.specs.declared.items.Kind.TheVariants.{Gap}
use Rattle.book.specs.declared.item.Item.{Item}
use Rattle.book.specs.declared.item.Placed.{Placed}
use Rattle.text_ends.specs.Told.{before_read, told_on}
use Rattle.text_ends.proofs.Walking.{all_told, fault_told, more_told, none_before, none_told, read_all, read_at}
use Rattle.text_ends.proofs.reading.read_pieces.Goals as goal

abbrev nothing : Piece
nothing = record { at = 0; len = 0; line = 0; kind = Gap }

abbrev placed_at : Piece → Item → Placed
placed_at piece it = record { piece = piece; item = it }

pub loop-piece-init : goal.loop-piece-init
loop-piece-init g c = record {
  so_far =
      ap (λ (xs : List Placed). before_read xs (told_on c.args.end.now.context c.args.place.bytes c.args.place.lines c.args.bytes.now c.args.pieces.now)) c.in_ok-items.ensures.items
      ∙ none_before (told_on c.args.end.now.context c.args.place.bytes c.args.place.lines c.args.bytes.now c.args.pieces.now);
  read = search rules;
  others = search rules;
}

pub loop-piece-preserved : goal.loop-piece-preserved
loop-piece-preserved g c = record {
  so_far = more_told c.args.end.now.context c.args.place.bytes c.args.place.lines c.args.bytes.now c.args.pieces.now c.loop-piece.piece-index nothing c.loop-piece.items.items
      (told_on c.args.end.now.context c.args.place.bytes c.args.place.lines c.args.bytes.now c.args.pieces.now) c.loop-piece-test.true c.loop-piece.invariant.so_far
      c.in_ok-item.item c.push.new.self.items c.in_ok-item.ensures.value (sym c.is_directive.ensures ∙ c.if-is_directive.false)
      (c.in_ok-push.ensures.items ∙ ap (λ (q : Piece). c.loop-piece.items.items ++ placed_at q c.in_ok-item.item ∷ []) c.shifted.ensures);
  read = grind (arith, common_steps);
  others = search rules;
}

pub returns-in_err-item-clause-value : goal.returns-in_err-item-clause-value
returns-in_err-item-clause-value g c =
    let p = err_from_is_err_and c.from_residual-in_err-item.result c.from_residual-in_err-item.ensures.1 in
    rw (p.1, p.2)
    (fault_told c.args.end.now.context c.args.place.bytes c.args.place.lines c.args.bytes.now c.args.pieces.now c.loop-piece.piece-index nothing c.loop-piece.items.items
    (told_on c.args.end.now.context c.args.place.bytes c.args.place.lines c.args.bytes.now c.args.pieces.now) c.loop-piece-test.true c.loop-piece.invariant.so_far
    c.in_err-item.field-0.0 c.in_err-item.ensures.value)

pub returns-in_err-item-clause-bound : goal.returns-in_err-item-clause-bound
returns-in_err-item-clause-bound g c =
    rw c.in_err-item.ensures.steps (read_at c.args.pieces.now c.loop-piece.piece-index nothing c.args.steps.now.bytes_read c.loop-piece.steps.bytes_read _ c.loop-piece-test.true c.loop-piece.invariant.read refl)

pub returns-then-is_directive-clause-value : goal.returns-then-is_directive-clause-value
returns-then-is_directive-clause-value g c =
    none_told c.args.end.now.context c.args.place.bytes c.args.place.lines c.args.bytes.now c.args.pieces.now c.loop-piece.piece-index nothing c.loop-piece.items.items
    (told_on c.args.end.now.context c.args.place.bytes c.args.place.lines c.args.bytes.now c.args.pieces.now) c.loop-piece-test.true c.loop-piece.invariant.so_far
    c.in_ok-item.item c.in_ok-item.ensures.value (sym c.is_directive.ensures ∙ c.if-is_directive.true)

pub returns-then-is_directive-clause-bound : goal.returns-then-is_directive-clause-bound
returns-then-is_directive-clause-bound g c =
    rw c.in_ok-item.ensures.steps (read_at c.args.pieces.now c.loop-piece.piece-index nothing c.args.steps.now.bytes_read c.loop-piece.steps.bytes_read _ c.loop-piece-test.true c.loop-piece.invariant.read refl)

pub returns-in_err-push-clause-bound : goal.returns-in_err-push-clause-bound
returns-in_err-push-clause-bound g c =
    rw c.in_ok-item.ensures.steps (read_at c.args.pieces.now c.loop-piece.piece-index nothing c.args.steps.now.bytes_read c.loop-piece.steps.bytes_read _ c.loop-piece-test.true c.loop-piece.invariant.read refl)

pub returns-clause-value : goal.returns-clause-value
returns-clause-value g c =
    all_told c.args.end.now.context c.args.place.bytes c.args.place.lines c.args.bytes.now c.args.pieces.now c.loop-piece.piece-index c.loop-piece.items.items c.from_vec.result _ c.loop-piece-test.false c.from_vec.ensures c.loop-piece.invariant.so_far

pub returns-clause-bound : goal.returns-clause-bound
returns-clause-bound g c = read_all c.args.pieces.now c.loop-piece.piece-index c.args.steps.now.bytes_read c.loop-piece.steps.bytes_read c.loop-piece-test.false c.loop-piece.invariant.read
