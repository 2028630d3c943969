use Rattle.std.proofs.Common.{sym, ap, ◌∙◌, ◌++◌, arith}
use Rattle.std.specs.String.{string_bytes}
use Rattle.entry_reader.specs.Lines.{before_byte}
use Rattle.csv_entries.specs.Values.{expanded, piece_text}
use Rattle.csv_entries.proofs.Pieces.{one_more, all_done}
use Rattle.csv_entries.proofs.values.expanded.Goals as goal

pub loop-rest-preserved : goal.loop-rest-preserved
loop-rest-preserved c =
    let names = c.args.names.now in
    let columns = c.args.columns.now in
    record {
      so_far = rw c.after-rest.ensures.value
          (one_more names columns (expanded names columns c.args.written.now) (string_bytes c.loop-rest.text) c.loop-rest.rest.now (string_bytes c.push_piece.new.text) c.loop-rest.invariant.so_far
          (sym c.has.ensures ∙ c.loop-rest-test.true)
          (c.in_ok-push_piece.ensures ∙ ap (λ x. string_bytes c.loop-rest.text ++ piece_text names columns x) (c.before-in-loop-rest.ensures.value ∙ ap (before_byte 37) c.after-rest.ensures.value)));
      utf8 = c.after-rest.ensures.utf8 (omega arith) c.loop-rest.invariant.utf8;
    }

pub returns : goal.returns
returns c =
    all_done c.args.names.now c.args.columns.now (expanded c.args.names.now c.args.columns.now c.args.written.now) (string_bytes c.loop-rest.text) c.loop-rest.rest.now c.loop-rest.invariant.so_far
    (sym c.has.ensures ∙ c.loop-rest-test.false)
