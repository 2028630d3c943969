use Rattle.std.proofs.Common.{◌≡◌, List, ◌+◌, ◌<◌, ◌≤◌, ◌++◌, pos, length, drop, subst, sym, ap, ◌∙◌, arith}
use Rattle.std.proofs.lemmas.Int.{to_z-of_z}
use Rattle.std.proofs.lemmas.List.{append-nil}
use Rattle.live_index.specs.declared.runs.Run.{Run}
use Rattle.live_index.specs.Runs.{AreRuns, AreTogether}
use Rattle.live_index.proofs.TogetherLaws.{both_of, left_of, sum_upto, walk-less, walk-equal, walk-greater, walk-end, walked, less-inside, equal-inside, equal-inside-other, greater-inside, both-together, both-kept}
use Rattle.live_index.proofs.runs.together.Goals as goal
use Rattle.live_index.proofs.runs.together.Goals.{then-at-first, else-at-first+then-other-second}
use mir.Syntax.{w128}

pub loop-at-preserved-in-Continue-branch-2 : goal.loop-at-preserved-in-Continue-branch-2
loop-at-preserved-in-Continue-branch-2 c =
    let d : Run = record { day = record { 0 = 0 }; sum = pos 0 } in
    let first = c.args.first.now in
    let second = c.args.second.now in
    let at = c.loop-at.at in
    let other = c.loop-at.other in
    let lt : c.loop-at.at < length c.args.first.now = less-inside first at (drop other second) (sym c.in-Less.ensures) in
    record {
      within = omega (arith, lt);
      inside = c.loop-at.invariant.inside;
      whole = walked c.loop-at.both.items c.push_changed.new.runs.items (left_of first (at + 1) second other) (both_of (pos 0) first (pos 0) second) (left_of first at second other) _ _ (sum_upto first at second other) (sum_upto first (at + 1) second other) _
          c.loop-at.invariant.whole
          (walk-less first second at other d lt (sym c.in-Less.ensures))
          (to_z-of_z w128 c.sum_of_both-earlier.result (record { sfits = c.sum_of_both-earlier.type_inv }) ∙ c.sum_of_both-earlier.ensures)
          (to_z-of_z w128 c.sum_of_both-sum.result (record { sfits = c.sum_of_both-sum.type_inv }) ∙ c.sum_of_both-sum.ensures)
          c.in_ok-push_changed-in-Less.ensures;
    }

pub loop-at-preserved-in-Continue-branch-3 : goal.loop-at-preserved-in-Continue-branch-3
loop-at-preserved-in-Continue-branch-3 c =
    let d : Run = record { day = record { 0 = 0 }; sum = pos 0 } in
    let first = c.args.first.now in
    let second = c.args.second.now in
    let at = c.loop-at.at in
    let other = c.loop-at.other in
    let lt : c.loop-at.at < length c.args.first.now = equal-inside first at (drop other second) (sym c.in-Equal.ensures) in
    let within : c.loop-at.other < length c.args.second.now = equal-inside-other (drop at first) second other (sym c.in-Equal.ensures) in
    record {
      within = omega (arith, lt);
      inside = omega (arith, within);
      whole = walked c.loop-at.both.items c.push_changed-in-Equal.new.runs.items (left_of first (at + 1) second (other + 1)) (both_of (pos 0) first (pos 0) second) (left_of first at second other) _ _ (sum_upto first at second other) (sum_upto first (at + 1) second (other + 1)) _
          c.loop-at.invariant.whole
          (walk-equal first second at other d lt within (sym c.in-Equal.ensures))
          (to_z-of_z w128 c.sum_of_both-earlier.result (record { sfits = c.sum_of_both-earlier.type_inv }) ∙ c.sum_of_both-earlier.ensures)
          (to_z-of_z w128 c.sum_of_both-sum-in-Equal.result (record { sfits = c.sum_of_both-sum-in-Equal.type_inv }) ∙ c.sum_of_both-sum-in-Equal.ensures)
          c.in_ok-push_changed-in-Equal.ensures;
    }

pub loop-at-preserved : goal.loop-at-preserved
loop-at-preserved c =
    let d : Run = record { day = record { 0 = 0 }; sum = pos 0 } in
    let first = c.args.first.now in
    let second = c.args.second.now in
    let at = c.loop-at.at in
    let other = c.loop-at.other in
    let some : length c.args.first.now ≤ c.loop-at.at → c.loop-at.other < length c.args.second.now = λ ge.
    elim c.if-at-first.branch [ then-at-first w ↦ absurd (omega (arith, ge, w.if-at-first.true)) | else-at-first+then-other-second w ↦ w.if-other-second.true ] in
    let within : c.loop-at.other < length c.args.second.now = greater-inside first second at other some (sym c.in-Greater.ensures) in
    record {
      within = c.loop-at.invariant.within;
      inside = omega (arith, within);
      whole = walked c.loop-at.both.items c.push_changed-in-Greater.new.runs.items (left_of first at second (other + 1)) (both_of (pos 0) first (pos 0) second) (left_of first at second other) _ _ (sum_upto first at second other) (sum_upto first at second (other + 1)) _
          c.loop-at.invariant.whole
          (walk-greater first second at other d within (sym c.in-Greater.ensures))
          (to_z-of_z w128 c.sum_of_both-earlier.result (record { sfits = c.sum_of_both-earlier.type_inv }) ∙ c.sum_of_both-earlier.ensures)
          (to_z-of_z w128 c.sum_of_both-sum-in-Greater.result (record { sfits = c.sum_of_both-sum-in-Greater.type_inv }) ∙ c.sum_of_both-sum-in-Greater.ensures)
          c.in_ok-push_changed-in-Greater.ensures;
    }

pub returns-clause-sums : goal.returns-clause-sums
returns-clause-sums c =
    let first = c.args.first.now in
    let second = c.args.second.now in
    let none = walk-end first second c.loop-at.at c.loop-at.other (omega arith) (omega arith) in
    let all : c.loop-at.both.items ≡ both_of (pos 0) c.args.first.now (pos 0) c.args.second.now =
    sym (append-nil c.loop-at.both.items) ∙ ap (λ (t : List Run). c.loop-at.both.items ++ t) (sym none) ∙ c.loop-at.invariant.whole in
    let P : List Run → Type 0 = λ runs. AreTogether c.args.first.now c.args.second.now runs in
    subst P (sym all) (both-together first second c.requires.first c.requires.second)

pub returns-clause-kept : goal.returns-clause-kept
returns-clause-kept c =
    let first = c.args.first.now in
    let second = c.args.second.now in
    let none = walk-end first second c.loop-at.at c.loop-at.other (omega arith) (omega arith) in
    let all : c.loop-at.both.items ≡ both_of (pos 0) c.args.first.now (pos 0) c.args.second.now =
    sym (append-nil c.loop-at.both.items) ∙ ap (λ (t : List Run). c.loop-at.both.items ++ t) (sym none) ∙ c.loop-at.invariant.whole in
    let P : List Run → Type 0 = λ runs. AreRuns runs in
    subst P (sym all) (both-kept first second c.requires.first c.requires.second)
