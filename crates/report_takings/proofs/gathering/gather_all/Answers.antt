use Rattle.std.proofs.Common.{◌≤◌, List, length, take, ap, subst, ◌∙◌, arith}
use Rattle.std.specs.List.{flat_map}
use Rattle.std.proofs.lemmas.List.{take_all}
use Rattle.book.specs.declared.transaction.Posting.{Posting}
use Rattle.report_cells.specs.Gathered.{Adds}
use Rattle.report_cells.specs.Taken.{Taken}
use Rattle.report_cells.proofs.Adds.{adds_none, adds_next, begun_after}
use Rattle.report_takings.specs.Asking.{question_of}
use Rattle.report_takings.specs.Entries.{Entry}
use Rattle.report_takings.specs.Walked.{taken_of}
use Rattle.report_takings.proofs.gathering.gather_all.Goals as goal

pub loop-posting-init : goal.loop-posting-init
loop-posting-init c = record { added = adds_none c.args.gatherer.now; serves = c.requires.serves }

pub gather_one-requires-clause-begun : goal.gather_one-requires-clause-begun
gather_one-requires-clause-begun c =
    begun_after c.args.gatherer.now c.loop-posting.gatherer
    (flat_map (λ (posting : Posting). taken_of (question_of c.args.scope.now) c.args.shown (posting, c.args.txn.now)) (take c.loop-posting.posting-index c.as_slice-posting-items.result.now))
    c.requires.begun c.loop-posting.invariant.added

pub loop-posting-preserved : goal.loop-posting-preserved
loop-posting-preserved c =
    let asked = question_of c.args.scope.now in
    record {
      added = adds_next (λ (posting : Posting). taken_of asked c.args.shown (posting, c.args.txn.now)) c.as_slice-posting-items.result.now c.loop-posting.posting-index c.posting-item.result
          c.args.gatherer.now c.loop-posting.gatherer c.gather_one.new.gatherer (omega arith) c.posting-item.is c.loop-posting.invariant.added
          (subst (λ (e : Entry). Adds c.loop-posting.gatherer (taken_of asked c.args.shown e) c.gather_one.new.gatherer) c.new-entry.ensures c.in_ok-gather_one.ensures.added);
      serves = c.in_ok-gather_one.ensures.serves;
    }

pub returns-clause-added : goal.returns-clause-added
returns-clause-added c =
    let asked = question_of c.args.scope.now in
    let past : length c.as_slice-posting-items.result.now ≤ c.loop-posting.posting-index = omega arith in
    let all = take_all c.loop-posting.posting-index c.as_slice-posting-items.result.now past ∙ c.as_slice-posting-items.ensures in
    subst (λ (ts : List Taken). Adds c.args.gatherer.now ts c.loop-posting.gatherer)
    (ap (flat_map (λ (posting : Posting). taken_of asked c.args.shown (posting, c.args.txn.now))) all)
    c.loop-posting.invariant.added
