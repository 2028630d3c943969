use Rattle.std.proofs.Common.{◌+◌, ◌&&◌, nat_lt, true, List, map, length, take, ap, subst, sym}
use Rattle.std.specs.Arc.{arc_value}
use Rattle.live_index.specs.declared.runs.Run.{Run}
use Rattle.live_index.specs.Cells.{Cell, is_above, is_key, HasAdded}
use Rattle.live_index.proofs.Above.{added-more, added-same}
use Rattle.live_index.proofs.cells.with_above.Goals as goal
use Rattle.live_index.proofs.cells.with_above.Goals.{then-account-end-eq58+in_ok-cells, else-account-end-eq58}

pub loop-end-preserved : goal.loop-end-preserved
loop-end-preserved c =
    let old : List Cell = map arc_value c.args.cells.items in
    let now : List Cell = map arc_value c.loop-end.cells.items in
    let sums : List (List Run) = arc_value c.args.sums.now in
    let P : List Cell → Type 0 = λ t. HasAdded (λ key. is_above c.args.account.now c.args.symbol.now key && nat_lt (length key.account) (c.loop-end.end + 1)) sums old t in
    let Q : List Cell → List Cell → Type 0 = λ s t. HasAdded (is_key (record { account = take c.loop-end.end c.args.account.now; symbol = c.args.symbol.now; below = true })) sums s t in
    elim c.if-account-end-eq58.branch [
      | then-account-end-eq58+in_ok-cells w ↦
          let new : List Cell = map arc_value w.in_ok-cells.cells.items in
          subst P (sym (ap (λ v. map arc_value v.items) w.cells-is)) (added-more c.args.account.now c.args.symbol.now sums c.loop-end.end old now new c.loop-end-test.true w.if-account-end-eq58.true c.loop-end.invariant (subst (λ (s : List Cell). Q s new) (ap (map arc_value) w.deref.ensures.value) w.in_ok-cells.ensures))
      | else-account-end-eq58 w ↦ subst P (sym (ap (λ v. map arc_value v.items) w.cells-is)) (added-same c.args.account.now c.args.symbol.now sums c.loop-end.end old now w.if-account-end-eq58.false c.loop-end.invariant)
    ]
