use Rattle.std.proofs.Common.{◌≡◌, nat_eq, false, sym, ◌∙◌}
use Rattle.std.specs.List.{starts_with}
use Rattle.std.specs.Str.Iter.{chars_rest}
use Rattle.query_terms.specs.Patterns.{folded, occurs}
use Rattle.query_terms.proofs.Folds.{occurs_later, occurs_none, rest_utf8}
use Rattle.query_terms.proofs.folding.occurs_in.Goals as goal

pub loop-rest-preserved : goal.loop-rest-preserved
loop-rest-preserved c =
    let here = sym c.begins_with.ensures ∙ c.if-begins_with.false in
    let none : starts_with nat_eq (folded (chars_rest c.loop-rest.rest)) (folded c.args.word.now) ≡ false = rw c.as_str.ensures at here in
    record {
      same = occurs_later (occurs (folded c.args.word.now) (folded c.args.text.now)) (chars_rest c.loop-rest.rest) c.args.word.now (chars_rest c.next.new.self) c.in-Some.field-0 c.loop-rest.invariant.same c.loop-rest.invariant.text c.in-Some.ensures.steps.0 none;
      text = rest_utf8 (chars_rest c.loop-rest.rest) (chars_rest c.next.new.self) c.in-Some.field-0 c.loop-rest.invariant.text c.in-Some.ensures.steps.0;
    }

pub returns-in-None : goal.returns-in-None
returns-in-None c =
    let here = sym c.begins_with.ensures ∙ c.if-begins_with.false in
    let none : starts_with nat_eq (folded (chars_rest c.loop-rest.rest)) (folded c.args.word.now) ≡ false = rw c.as_str.ensures at here in
    occurs_none (occurs (folded c.args.word.now) (folded c.args.text.now)) (chars_rest c.loop-rest.rest) c.args.word.now c.loop-rest.invariant.same c.in-None.ensures.steps.0.0 none
