use Rattle.std.proofs.Common.{◌<◌, ◌≤◌, List, map, length, subst, sym, arith}
use Rattle.std.specs.Arc.{arc_value}
use Rattle.live_index.specs.Cells.{Cell, HasPushedSum}
use Rattle.live_index.proofs.WalkLaws.{lesser-inside, equal-inside, equal-inside-other, greater-inside, walk-less, walk-greater, walk-equal}
use Rattle.live_index.proofs.cells.joined.Goals as goal
use Rattle.live_index.proofs.cells.joined.Goals.{then-at-first, else-at-first+then-other-second}

pub loop-at-preserved-in-Less : goal.loop-at-preserved-in-Less
loop-at-preserved-in-Less c =
    let one : List Cell = map arc_value c.args.first.now in
    let two : List Cell = map arc_value c.args.second.now in
    let at = c.loop-at.at in
    let other = c.loop-at.other in
    let lt : c.loop-at.at < length c.args.first.now = lesser-inside arc_value c.args.first.now at _ (sym c.in-Less.ensures) in
    record {
      within = omega (arith, lt);
      inside = c.loop-at.invariant.inside;
      sums = walk-less arc_value one two c.args.first.now c.args.second.now c.loop-at.both.items c.push.new.self.items at other c.index-first-at.result c.in_ok-try_clone-in-Less.field-0 lt c.index-first-at.is c.in_ok-try_clone-in-Less.ensures c.in_ok-push-in-Less.ensures.items (sym c.in-Less.ensures) c.loop-at.invariant.sums;
    }

pub loop-at-preserved-in-Equal : goal.loop-at-preserved-in-Equal
loop-at-preserved-in-Equal c =
    let one : List Cell = map arc_value c.args.first.now in
    let two : List Cell = map arc_value c.args.second.now in
    let at = c.loop-at.at in
    let other = c.loop-at.other in
    let lt : c.loop-at.at < length c.args.first.now = equal-inside arc_value c.args.first.now at _ (sym c.in-Equal.ensures) in
    let within : c.loop-at.other < length c.args.second.now = equal-inside-other arc_value _ c.args.second.now other (sym c.in-Equal.ensures) in
    let P : Cell → Type 0 = λ e. HasPushedSum e (arc_value c.index-second-other.result) (map arc_value c.loop-at.both.items) (map arc_value c.push_sum.new.cells.items) in
    let Q : Cell → Type 0 = λ e. HasPushedSum c.deref.result.now e (map arc_value c.loop-at.both.items) (map arc_value c.push_sum.new.cells.items) in
    record {
      within = omega (arith, lt);
      inside = omega (arith, within);
      sums = walk-equal arc_value one two c.args.first.now c.args.second.now c.loop-at.both.items c.push_sum.new.cells.items at other c.index-first-at-in-Equal.result c.index-second-other.result lt within c.index-first-at-in-Equal.is c.index-second-other.is (subst P c.deref.ensures (subst Q c.deref-in-Equal.ensures c.in_ok-push_sum-in-Equal.ensures)) (sym c.in-Equal.ensures) c.loop-at.invariant.sums;
    }

pub bounds-second-other-in-Greater : goal.bounds-second-other-in-Greater
bounds-second-other-in-Greater c =
    let some : length c.args.first.now ≤ c.loop-at.at → c.loop-at.other < length c.args.second.now = λ ge.
    elim c.if-at-first.branch [ then-at-first w ↦ absurd (omega (arith, ge, w.if-at-first.true)) | else-at-first+then-other-second w ↦ w.if-other-second.true ] in
    greater-inside arc_value c.args.first.now c.args.second.now c.loop-at.at c.loop-at.other some (sym c.in-Greater.ensures)

pub loop-at-smaller : goal.loop-at-smaller
loop-at-smaller c =
    let some : length c.args.first.now ≤ c.loop-at.at → c.loop-at.other < length c.args.second.now = λ ge.
    elim c.if-at-first.branch [ then-at-first w ↦ absurd (omega (arith, ge, w.if-at-first.true)) | else-at-first+then-other-second w ↦ w.if-other-second.true ] in
    let within : c.loop-at.other < length c.args.second.now = greater-inside arc_value c.args.first.now c.args.second.now c.loop-at.at c.loop-at.other some (sym c.in-Greater.ensures) in
    omega (arith, within)

pub loop-at-preserved : goal.loop-at-preserved
loop-at-preserved c =
    let one : List Cell = map arc_value c.args.first.now in
    let two : List Cell = map arc_value c.args.second.now in
    let at = c.loop-at.at in
    let other = c.loop-at.other in
    let some : length c.args.first.now ≤ c.loop-at.at → c.loop-at.other < length c.args.second.now = λ ge.
    elim c.if-at-first.branch [ then-at-first w ↦ absurd (omega (arith, ge, w.if-at-first.true)) | else-at-first+then-other-second w ↦ w.if-other-second.true ] in
    let within : c.loop-at.other < length c.args.second.now = greater-inside arc_value c.args.first.now c.args.second.now at other some (sym c.in-Greater.ensures) in
    record {
      within = c.loop-at.invariant.within;
      inside = omega (arith, within);
      sums = walk-greater arc_value one two c.args.first.now c.args.second.now c.loop-at.both.items c.push-in-Greater.new.self.items at other c.index-second-other-in-Greater.result c.in_ok-try_clone-in-Greater.field-0 within c.index-second-other-in-Greater.is c.in_ok-try_clone-in-Greater.ensures c.in_ok-push-in-Greater.ensures.items (sym c.in-Greater.ensures) c.loop-at.invariant.sums;
    }
