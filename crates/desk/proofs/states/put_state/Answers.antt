use Rattle.std.proofs.Common.{◌≡◌, ◌∙◌, ◌<◌, ◌++◌, true, List, length, take, get_or, ap, sym, arith, rules}
use Rattle.std.proofs.lemmas.List.{set_split}
use Rattle.hl_base.specs.declared.change.Latest.{Latest}
use Rattle.text_store.specs.Image.{same_name, with_mark}
use Rattle.desk.proofs.Named.{mark_here}
use Rattle.desk.proofs.states.put_state.Goals as goal

pub returns-then-is_named : goal.returns-then-is_named
returns-then-is_named c =
    let xs = c.loop-i.states.items in
    let i = c.loop-i.i in
    let mark = c.args.mark in
    let less : i < length xs = omega (arith, c.loop-i-test.true, c.loop-i.invariant.1) in
    let is : c.index.result.now ≡ get_or xs i c.index.result.now = c.index.ensures in
    let same : same_name c.index.result.now mark ≡ true = search rules in
    set_split xs i mark less ∙ ap (λ (l : List Latest). take i xs ++ l) (sym (mark_here mark xs i c.index.result.now less is same))
    ∙ c.loop-i.invariant.2 ∙ ap (with_mark mark) c.loop-i.invariant.0
