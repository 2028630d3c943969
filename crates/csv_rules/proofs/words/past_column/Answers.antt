use Rattle.std.proofs.Common.{sym, ◌∙◌}
use Rattle.std.specs.Str.Iter.{chars_rest}
use Rattle.query_terms.proofs.Folds.{rest_utf8}
use Rattle.csv_rules.proofs.ColumnNames.{past_none, past_stop, past_more}
use Rattle.csv_rules.proofs.words.past_column.Goals as goal

pub loop-c-preserved : goal.loop-c-preserved
loop-c-preserved c = record {
  same = past_more c.args.text.now (chars_rest c.loop-c.rest) (chars_rest c.next.new.self) c.in-Some.c c.loop-c.invariant.same c.loop-c.invariant.text c.in-Some.ensures.steps.0 (sym c.is_name_char.ensures ∙ c.if-not-is_name_char.false);
  text = rest_utf8 (chars_rest c.loop-c.rest) (chars_rest c.next.new.self) c.in-Some.c c.loop-c.invariant.text c.in-Some.ensures.steps.0;
}

pub returns-then-not-is_name_char : goal.returns-then-not-is_name_char
returns-then-not-is_name_char c =
    c.as_str-here.ensures
    ∙ past_stop c.args.text.now (chars_rest c.loop-c.rest) (chars_rest c.next.new.self) c.in-Some.c c.loop-c.invariant.same c.loop-c.invariant.text c.in-Some.ensures.steps.0 (sym c.is_name_char.ensures ∙ c.if-not-is_name_char.true)

pub returns-in-None : goal.returns-in-None
returns-in-None c =
    c.as_str-here.ensures ∙ past_none c.args.text.now (chars_rest c.loop-c.rest) c.loop-c.invariant.same c.in-None.ensures.steps.0.0
