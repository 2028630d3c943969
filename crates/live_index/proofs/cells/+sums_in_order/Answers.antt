use Rattle.std.proofs.Common.{◌≡◌, List, map, length, ap, subst, arith, rules}
use Rattle.std.proofs.lemmas.Bool.Decides.{nat_tests}
use Rattle.std.specs.Arc.{arc_value}
use Rattle.live_index.specs.Cells.{Cell, AreJoined}
use Rattle.live_index.proofs.Answered.{if-ok}
use Rattle.live_index.proofs.SeriesLaws.{sums-empty, sums-of-parts}
use Rattle.live_index.proofs.cells.+sums_in_order.Goals as goal

pub returns-then-is_empty : goal.returns-then-is_empty
returns-then-is_empty t c =
    let none : length c.args.rows.now ≡ 0 = first_of (grind (arith, nat_tests), search rules) in
    sums-empty c.args.rows.now (map arc_value c.new.result.items) none (ap (map arc_value) c.new.ensures.items)

pub returns : goal.returns
returns t c =
    let first : List Cell = map arc_value c.in_ok-first.first.items in
    let second : List Cell = map arc_value c.in_ok-second.second.items in
    let one : map arc_value c.deref.result.now ≡ map arc_value c.in_ok-first.first.items = ap (map arc_value) c.deref.ensures.value in
    let two : map arc_value c.deref-2.result.now ≡ map arc_value c.in_ok-second.second.items = ap (map arc_value) c.deref-2.ensures.value in
    if-ok c.joined.result _ _ (λ both j.
    let P : List Cell → Type 0 = λ s. AreJoined s (map arc_value c.deref-2.result.now) (map arc_value both.items) in
    let Q : List Cell → Type 0 = λ s. AreJoined first s (map arc_value both.items) in
    sums-of-parts c.args.rows.now _ _ _ first second (map arc_value both.items) c.split_at.ensures.front c.split_at.ensures.back c.in_ok-first.ensures c.in_ok-second.ensures (subst Q two (subst P one j)))
    c.joined.ensures
