use Rattle.std.proofs.Common.{sym, ap, ◌∙◌, ◌++◌, ◌∷◌, [], arith}
use Rattle.std.specs.String.{string_bytes}
use Rattle.csv_entries.specs.Judging.{one_line, without_return}
use Rattle.csv_entries.proofs.Spaced.{one_more, last_one}
use Rattle.csv_entries.proofs.judging.one_line.Goals as goal

pub loop-line-preserved : goal.loop-line-preserved
loop-line-preserved c = record {
  so_far = rw c.after-rest.ensures.value
      (one_more (one_line c.args.text.now) (string_bytes c.loop-line.line) c.loop-line.rest.now (string_bytes c.push_str.new.self) c.loop-line.invariant.so_far
      (sym c.has.ensures ∙ c.loop-line-test.true)
      (c.in_ok-push_str.ensures.bytes
      ∙ ap (λ x. x ++ 32 ∷ []) (c.in_ok-append.ensures ∙ ap (λ x. string_bytes c.loop-line.line ++ x) (c.without_return.ensures.value ∙ ap without_return c.before-in-loop-line.ensures.value))));
  utf8 = c.after-rest.ensures.utf8 (omega arith) c.loop-line.invariant.utf8;
}

pub returns : goal.returns
returns c =
    c.from_string.ensures ∙ last_one (one_line c.args.text.now) (string_bytes c.loop-line.line) c.loop-line.rest.now (string_bytes c.append-2.new.text) c.loop-line.invariant.so_far
    (sym c.has.ensures ∙ c.loop-line-test.false) c.in_ok-append-2.ensures
