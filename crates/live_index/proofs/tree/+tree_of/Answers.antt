use Rattle.std.proofs.Common.{◌≡◌, ◌-◌, ◌/◌, ◌<◌, map, length, take, drop, ap, ◌∙◌, arith, rules}
use Rattle.std.proofs.lemmas.Bool.Decides.{nat_tests}
use Rattle.std.proofs.lemmas.List.{length-drop, take_all}
use Rattle.std.specs.Arc.{arc_value}
use Rattle.live_index.specs.Trees.{cells_of}
use Rattle.live_index.proofs.Answered.{if-ok}
use Rattle.live_index.proofs.WalkLaws.{made-of}
use Rattle.live_index.proofs.tree.+tree_of.Goals as goal

pub returns : goal.returns
returns t c =
    let back = c.split_at.result.1.now in
    let some : 0 < length c.args.cells.now = first_of (grind (arith, nat_tests), search rules) in
    let long : length back ≡ length c.args.cells.now - length c.args.cells.now / 2 = ap length c.split_at.ensures.back ∙ length-drop _ _ in
    let rest : take (length back - 1) (drop 1 back) ≡ drop 1 back = take_all (length back - 1) (drop 1 back) (omega (arith, length-drop 1 back)) in
    if-ok c.node.result _ _ (λ new e.
    e ∙ made-of arc_value c.args.cells.now c.split_at.result.0.now c.split_at.result.1.now _ (cells_of c.in_ok-left.left) (cells_of c.in_ok-right.right) c.index-back-0.result c.in_ok-try_clone.field-0 c.split_at.ensures.front c.split_at.ensures.back c.in_ok-left.ensures (c.in_ok-right.ensures ∙ ap (map arc_value) rest) (omega (arith, some, long)) c.index-back-0.is c.in_ok-try_clone.ensures)
    c.node.ensures
