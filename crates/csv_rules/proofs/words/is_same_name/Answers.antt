use Rattle.std.proofs.Common.{sym, ◌∙◌}
use Rattle.std.specs.Str.{bytes_eq}
use Rattle.std.specs.Str.Iter.{chars_rest}
use Rattle.query_terms.specs.Patterns.{folded}
use Rattle.query_terms.proofs.Folds.{word_differ, word_same, word_short, word_all, word_long, rest_utf8}
use Rattle.csv_rules.proofs.words.is_same_name.Goals as goal

pub returns-then-simple_fold : goal.returns-then-simple_fold
returns-then-simple_fold c =
    word_differ (bytes_eq (folded c.args.other.now) (folded c.args.name.now)) (chars_rest c.loop-c.rest) (chars_rest c.loop-c.c-iterator) (chars_rest c.next-in-loop-c.new.self) (chars_rest c.next.new.self) c.in-Some.c c.in-Some-next.d c.loop-c.invariant.same c.loop-c.invariant.text c.loop-c.invariant.word c.in-Some-next.ensures.steps.0 c.in-Some.ensures.steps.0 (λ e. c.if-simple_fold.true (c.simple_fold.ensures ∙ (e ∙ sym c.simple_fold-in-Some-next.ensures)))

pub loop-c-preserved : goal.loop-c-preserved
loop-c-preserved c = record {
  same = word_same (bytes_eq (folded c.args.other.now) (folded c.args.name.now)) (chars_rest c.loop-c.rest) (chars_rest c.loop-c.c-iterator) (chars_rest c.next-in-loop-c.new.self) (chars_rest c.next.new.self) c.in-Some.c c.in-Some-next.d c.loop-c.invariant.same c.loop-c.invariant.text c.loop-c.invariant.word c.in-Some-next.ensures.steps.0 c.in-Some.ensures.steps.0 (sym c.simple_fold.ensures ∙ (c.if-simple_fold.false ∙ c.simple_fold-in-Some-next.ensures));
  text = rest_utf8 (chars_rest c.loop-c.rest) (chars_rest c.next-in-loop-c.new.self) c.in-Some-next.d c.loop-c.invariant.text c.in-Some-next.ensures.steps.0;
  word = rest_utf8 (chars_rest c.loop-c.c-iterator) (chars_rest c.next.new.self) c.in-Some.c c.loop-c.invariant.word c.in-Some.ensures.steps.0;
}

pub returns-in-None-next : goal.returns-in-None-next
returns-in-None-next c =
    word_short (bytes_eq (folded c.args.other.now) (folded c.args.name.now)) (chars_rest c.loop-c.rest) (chars_rest c.loop-c.c-iterator) (chars_rest c.next.new.self) c.in-Some.c c.loop-c.invariant.same c.in-None-next.ensures.steps.0.0 c.loop-c.invariant.word c.in-Some.ensures.steps.0

pub returns-in-Some-next-2 : goal.returns-in-Some-next-2
returns-in-Some-next-2 c =
    word_long (bytes_eq (folded c.args.other.now) (folded c.args.name.now)) (chars_rest c.loop-c.rest) (chars_rest c.loop-c.c-iterator) (chars_rest c.next-2.new.self) c.in-Some-next-2.field-0 c.loop-c.invariant.same c.in-None.ensures.steps.0.0 c.loop-c.invariant.text c.in-Some-next-2.ensures.steps.0

pub returns-in-None-next-2 : goal.returns-in-None-next-2
returns-in-None-next-2 c =
    word_all (bytes_eq (folded c.args.other.now) (folded c.args.name.now)) (chars_rest c.loop-c.rest) (chars_rest c.loop-c.c-iterator) c.loop-c.invariant.same c.in-None-next-2.ensures.steps.0.0 c.in-None.ensures.steps.0.0
