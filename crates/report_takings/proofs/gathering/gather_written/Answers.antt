use Rattle.std.proofs.Common.{◌≤◌, List, length, take, ap, subst, ◌∙◌, arith, rules}
use Rattle.std.specs.List.{flat_map}
use Rattle.std.proofs.lemmas.List.{take_all}
use Rattle.report_cells.specs.Gathered.{Adds}
use Rattle.report_cells.specs.Taken.{Taken}
use Rattle.report_cells.proofs.Adds.{adds_none, adds_next, begun_after}
use Rattle.report_takings.specs.Asking.{question_of}
use Rattle.report_takings.specs.Walked.{taken_in}
use Rattle.report_takings.proofs.Keeping.{taken_are}
use Rattle.report_takings.proofs.gathering.gather_written.Goals as goal

pub loop-txn-init : goal.loop-txn-init
loop-txn-init c = record { added = adds_none c.args.gatherer.now; serves = search rules }

pub gather_all-requires-clause-begun : goal.gather_all-requires-clause-begun
gather_all-requires-clause-begun c =
    begun_after c.args.gatherer.now c.loop-txn.gatherer
    (flat_map (taken_in (question_of c.args.scope.now) c.args.shown) (take c.loop-txn.txn-index c.as_slice-txn-items.result.now))
    c.requires.begun c.loop-txn.invariant.added

pub loop-txn-preserved : goal.loop-txn-preserved
loop-txn-preserved c = record {
  added = adds_next (taken_in (question_of c.args.scope.now) c.args.shown) c.as_slice-txn-items.result.now c.loop-txn.txn-index c.txn-item.result
      c.args.gatherer.now c.loop-txn.gatherer c.gather_all.new.gatherer (omega arith) c.txn-item.is c.loop-txn.invariant.added c.in_ok-gather_all.ensures.added;
  serves = c.in_ok-gather_all.ensures.serves;
}

pub returns : goal.returns
returns c =
    let asked = question_of c.args.scope.now in
    let past : length c.as_slice-txn-items.result.now ≤ c.loop-txn.txn-index = omega arith in
    let all = take_all c.loop-txn.txn-index c.as_slice-txn-items.result.now past ∙ c.as_slice-txn-items.ensures in
    subst (λ (ts : List Taken). Adds c.args.gatherer.now ts c.loop-txn.gatherer)
    (ap (flat_map (taken_in asked c.args.shown)) all ∙ taken_are asked c.args.shown c.args.scope.now.book.now.txns)
    c.loop-txn.invariant.added
