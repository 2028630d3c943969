use Rattle.hl_base.specs.declared.items.Piece.{Piece}
use Rattle.std.proofs.Common.{◌≡◌, ◌+◌, ◌-◌, ◌++◌, List, [], ◌∷◌, subst, length, drop, ap, sym, ◌∙◌, arith, append_assoc, append-nil}
use Rattle.std.specs.List.{AllByRecursion}
use Rattle.std.proofs.lemmas.List.Sums.{sum_by-append}
use Rattle.hl_base.specs.Lines.{first_line, lines_of}
use Rattle.hl_base.specs.Items.{kind_of, cut_from}
use Rattle.hl_base.specs.Pieces.{IsWithin, bytes_in, lines_left, bytes_left}
use Rattle.hl_base.proofs.CutLemmas.{cut_step, each_push, cut_end}
use Rattle.hl_base.proofs.items.cut_items.Goals as goal

pub loop-at-preserved : goal.loop-at-preserved
loop-at-preserved c =
    let text = c.args.text.now in
    let next = c.line_at-first_end.result.1 in
    let kind = c.kind_of-kind.result in
    let end = c.piece_end-end.result.0 in
    let lines = c.piece_end-end.result.1 in
    let piece : Piece = record { at = c.loop-at.at; len = end - c.loop-at.at; line = c.loop-at.line; kind = kind } in
    let tail : cut_from 0 end (c.loop-at.line + (1 + lines)) (lines_of (drop end text)) ≡ cut_from 0 (next + bytes_left kind text next) (c.loop-at.line + (1 + lines_left kind text next)) (lines_of (drop (next + bytes_left kind text next) text)) =
    ap (λ i. cut_from 0 i (c.loop-at.line + (1 + lines)) (lines_of (drop i text))) c.piece_end-end.ensures.end
    ∙ ap (λ n. cut_from 0 (next + bytes_left kind text next) (c.loop-at.line + (1 + n)) (lines_of (drop (next + bytes_left kind text next) text))) c.piece_end-end.ensures.lines in
    let kinds : kind ≡ kind_of (first_line (drop c.loop-at.at text)) = c.kind_of-kind.ensures ∙ ap kind_of c.line_at-first_end.ensures.line in
    let step = cut_step text c.loop-at.at c.loop-at.line next c.loop-at-test.true c.line_at-first_end.ensures.next kind kinds (end - c.loop-at.at) (omega (arith, c.piece_end-end.ensures.end, c.piece_end-end.ensures.bounds, c.line_at-first_end.ensures.bounds)) in
    record {
      within = omega (arith, c.piece_end-end.ensures.bounds);
      counted = omega (arith, c.piece_end-end.ensures.bounds, c.loop-at.invariant.counted, c.line_at-first_end.ensures.bounds);
      cut =
          ap (λ ps. ps ++ cut_from 0 end (c.loop-at.line + (1 + lines)) (lines_of (drop end text))) c.in_ok-push.ensures.items
          ∙ append_assoc c.loop-at.pieces.items (piece ∷ []) (cut_from 0 end (c.loop-at.line + (1 + lines)) (lines_of (drop end text)))
          ∙ ap (λ ps. c.loop-at.pieces.items ++ piece ∷ ps) tail
          ∙ ap (λ ps. c.loop-at.pieces.items ++ ps) (sym step)
          ∙ c.loop-at.invariant.cut;
      covered =
          let joined : bytes_in c.push.new.self.items ≡ bytes_in c.loop-at.pieces.items + bytes_in (piece ∷ []) =
          ap bytes_in c.in_ok-push.ensures.items ∙ sum_by-append (λ (p : Piece). p.len) c.loop-at.pieces.items (piece ∷ []) in
          let last : bytes_in (piece ∷ []) ≡ end - c.loop-at.at = omega arith in
          omega (arith, joined, last, c.loop-at.invariant.covered, c.piece_end-end.ensures.bounds, c.line_at-first_end.ensures.bounds);
      each =
          let F : List Piece → Type 0 = λ ps. AllByRecursion (IsWithin (length text)) ps in
          subst F (sym c.in_ok-push.ensures.items)
          (each_push (length text) c.loop-at.pieces.items piece c.loop-at.invariant.each
          (record {
            bytes = omega (arith, c.piece_end-end.ensures.bounds, c.line_at-first_end.ensures.bounds);
            lines = omega (arith, c.piece_end-end.ensures.bounds, c.line_at-first_end.ensures.bounds, c.loop-at.invariant.counted);
          }));
    }

pub returns-clause-cut : goal.returns-clause-cut
returns-clause-cut c =
    c.from_vec.ensures ∙ sym (append-nil c.loop-at.pieces.items)
    ∙ ap (λ ps. c.loop-at.pieces.items ++ ps) (sym (cut_end c.args.text.now c.loop-at.at c.loop-at.line c.loop-at-test.false))
    ∙ c.loop-at.invariant.cut
