use Rattle.std.proofs.Common.{◌≡◌, List, [], map, ap, subst}
use Rattle.std.specs.Arc.{arc_value}
use Rattle.live_index.specs.Cells.{Cell, Key, HasPushed, AreJoined}
use Rattle.live_index.proofs.Answered.{if-ok}
use Rattle.live_index.proofs.CellLaws.{joined-sums}
use Rattle.live_index.proofs.cells.with_key.Goals as goal

pub returns : goal.returns
returns c =
    let key : Key = record { account = c.args.account.now; symbol = c.args.symbol.now; below = c.args.below } in
    let old : List Cell = map arc_value c.args.cells.now in
    let one : List Cell = map arc_value c.push_cell.new.cells.items in
    let none : map arc_value c.new-one.result.items ≡ [] = ap (map arc_value) c.new-one.ensures.items in
    let P : List Cell → Type 0 = λ t. HasPushed c.in_ok-of.field-0 t (map arc_value c.push_cell.new.cells.items) in
    let pushed : HasPushed c.in_ok-of.field-0 [] (map arc_value c.push_cell.new.cells.items) = subst P none c.in_ok-push_cell.ensures in
    let same : map arc_value c.deref.result.now ≡ map arc_value c.push_cell.new.cells.items = ap (map arc_value) c.deref.ensures.value in
    if-ok c.joined.result _ _ (λ new j. joined-sums key (arc_value c.args.sums.now) old one (map arc_value new.items) c.in_ok-of.field-0 c.in_ok-of.ensures.key c.in_ok-of.ensures.sums pushed (subst (λ (t : List Cell). AreJoined old t (map arc_value new.items)) same j)) c.joined.ensures
