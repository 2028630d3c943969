use Rattle.std.proofs.Common.{◌+◌, ◌<◌, List, length, Some, ap, sym, ◌∙◌, arith}
use Rattle.std.proofs.lemmas.List.{get_or_default, take_rest}
use Rattle.std.specs.List.{list_any}
use Rattle.std.specs.Str.{bytes_eq}
use Rattle.web_messages.specs.declared.form.Parameter.{Parameter}
use Rattle.web_messages.proofs.Values.{more_here, next_other, none_here, only_here}
use Rattle.web_messages.proofs.form.one_value.Goals as goal

pub loop-i-preserved : goal.loop-i-preserved
loop-i-preserved c =
    (next_other c.args.name.now c.args.all.now c.loop-i.i c.index-all-i.result (omega arith) c.index-all-i.is (sym c.is_named.ensures ∙ c.if-is_named.false) c.loop-i.invariant.0, c.loop-i.invariant.1)

pub returns : goal.returns
returns c = none_here c.args.name.now c.args.all.now c.loop-i.i (omega arith) c.loop-i.invariant.0

pub returns-then-has_named : goal.returns-then-has_named
returns-then-has_named c =
    let name = c.args.name.now in
    let all = c.args.all.now in
    let i = c.loop-i.i in
    more_here name all i c.index-all-i.result (omega arith) c.index-all-i.is (sym c.is_named.ensures ∙ c.if-is_named.true) c.loop-i.invariant.0
    (ap (λ (ps : List Parameter). list_any (λ p. bytes_eq p.name name) ps) (sym (take_rest all (i + 1))) ∙ sym c.has_named.ensures ∙ c.if-has_named.true)

pub returns-then-is_named : goal.returns-then-is_named
returns-then-is_named c =
    let name = c.args.name.now in
    let all = c.args.all.now in
    let i = c.loop-i.i in
    let p = c.index-all-i.result in
    let less : i < length all = omega arith in
    ap (λ (q : Parameter). Some q.value) (get_or_default all i c.index-all-i-then-is_named.result p less ∙ sym c.index-all-i.is)
    ∙ only_here name all i p less c.index-all-i.is (sym c.is_named.ensures ∙ c.if-is_named.true) c.loop-i.invariant.0
    (ap (λ (ps : List Parameter). list_any (λ p. bytes_eq p.name name) ps) (sym (take_rest all (i + 1))) ∙ sym c.has_named.ensures ∙ c.if-has_named.false)
