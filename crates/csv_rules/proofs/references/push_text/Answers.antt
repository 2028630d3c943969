use Rattle.std.proofs.Common.{sym, ap, ◌∙◌, ◌++◌, arith}
use Rattle.entry_reader.specs.Lines.{before_byte}
use Rattle.csv_rules.specs.References.{reference_at, references_in}
use Rattle.csv_rules.proofs.ReferenceLaws.{one_more, all_done}
use Rattle.csv_rules.proofs.references.push_text.Goals as goal

pub loop-rest-preserved : goal.loop-rest-preserved
loop-rest-preserved c =
    let line = c.args.line in
    record {
      so_far = rw c.after-rest.ensures.value
          (one_more (c.args.references.now.items ++ references_in line c.args.text.now) c.loop-rest.references.items line c.loop-rest.rest.now c.push_piece.new.references.items c.loop-rest.invariant.so_far
          (sym c.has.ensures ∙ c.loop-rest-test.true)
          (c.in_ok-push_piece.ensures ∙ ap (λ x. c.loop-rest.references.items ++ reference_at line x) (c.before-in-loop-rest.ensures.value ∙ ap (before_byte 37) c.after-rest.ensures.value)));
      utf8 = c.after-rest.ensures.utf8 (omega arith) c.loop-rest.invariant.utf8;
    }

pub returns : goal.returns
returns c =
    all_done (c.args.references.now.items ++ references_in c.args.line c.args.text.now) c.loop-rest.references.items c.args.line c.loop-rest.rest.now c.loop-rest.invariant.so_far
    (sym c.has.ensures ∙ c.loop-rest-test.false)
