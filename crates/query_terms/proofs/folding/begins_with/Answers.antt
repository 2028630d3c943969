use Rattle.std.proofs.Common.{nat_eq, sym, ◌∙◌}
use Rattle.std.specs.List.{starts_with}
use Rattle.std.specs.Str.Iter.{chars_rest}
use Rattle.query_terms.specs.Patterns.{folded}
use Rattle.query_terms.proofs.Folds.{begins_differ, begins_same, begins_short, begins_all, rest_utf8}
use Rattle.query_terms.proofs.folding.begins_with.Goals as goal

pub returns-then-simple_fold : goal.returns-then-simple_fold
returns-then-simple_fold c =
    begins_differ (starts_with nat_eq (folded c.args.text.now) (folded c.args.word.now)) (chars_rest c.loop-c.rest) (chars_rest c.loop-c.c-iterator) (chars_rest c.next-in-loop-c.new.self) (chars_rest c.next.new.self) c.in-Some.c c.in-Some-next.d c.loop-c.invariant.same c.loop-c.invariant.text c.loop-c.invariant.word c.in-Some-next.ensures.steps.0 c.in-Some.ensures.steps.0 (λ e. c.if-simple_fold.true (c.simple_fold.ensures ∙ (e ∙ sym c.simple_fold-in-Some-next.ensures)))

pub loop-c-preserved : goal.loop-c-preserved
loop-c-preserved c = record {
  same = begins_same (starts_with nat_eq (folded c.args.text.now) (folded c.args.word.now)) (chars_rest c.loop-c.rest) (chars_rest c.loop-c.c-iterator) (chars_rest c.next-in-loop-c.new.self) (chars_rest c.next.new.self) c.in-Some.c c.in-Some-next.d c.loop-c.invariant.same c.loop-c.invariant.text c.loop-c.invariant.word c.in-Some-next.ensures.steps.0 c.in-Some.ensures.steps.0 (sym c.simple_fold.ensures ∙ (c.if-simple_fold.false ∙ c.simple_fold-in-Some-next.ensures));
  text = rest_utf8 (chars_rest c.loop-c.rest) (chars_rest c.next-in-loop-c.new.self) c.in-Some-next.d c.loop-c.invariant.text c.in-Some-next.ensures.steps.0;
  word = rest_utf8 (chars_rest c.loop-c.c-iterator) (chars_rest c.next.new.self) c.in-Some.c c.loop-c.invariant.word c.in-Some.ensures.steps.0;
}

pub returns-in-None-next : goal.returns-in-None-next
returns-in-None-next c =
    begins_short (starts_with nat_eq (folded c.args.text.now) (folded c.args.word.now)) (chars_rest c.loop-c.rest) (chars_rest c.loop-c.c-iterator) (chars_rest c.next.new.self) c.in-Some.c c.loop-c.invariant.same c.in-None-next.ensures.steps.0.0 c.loop-c.invariant.word c.in-Some.ensures.steps.0

pub returns : goal.returns
returns c = begins_all (starts_with nat_eq (folded c.args.text.now) (folded c.args.word.now)) (chars_rest c.loop-c.rest) (chars_rest c.loop-c.c-iterator) c.loop-c.invariant.same c.in-None.ensures.steps.0.0
