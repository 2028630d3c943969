use Rattle.std.proofs.Common.{◌≤◌, List, [], ◌∷◌, length, map, take, ap, subst, arith}
use Rattle.std.proofs.lemmas.List.{take_all}
use Rattle.report_cells.specs.Gathered.{Adds}
use Rattle.report_cells.specs.Taken.{Taken}
use Rattle.report_cells.proofs.Adds.{adds_none, adds_mapped, begun_after}
use Rattle.report_takings.specs.Asking.{question_of}
use Rattle.report_takings.specs.Entries.{Entry}
use Rattle.report_takings.specs.Takings.{taken}
use Rattle.report_takings.specs.declared.entries.Part.TheVariants.{Named}
use Rattle.report_takings.proofs.gathering.gather_named.Goals as goal

pub loop-entry-init : goal.loop-entry-init
loop-entry-init c = adds_none c.args.gatherer.now

pub add-requires : goal.add-requires
add-requires c =
    begun_after c.args.gatherer.now c.loop-entry.gatherer (map (taken Named (question_of c.args.scope.now)) (take c.loop-entry.entry-index c.args.entries.now))
    c.requires c.loop-entry.invariant

pub loop-entry-preserved : goal.loop-entry-preserved
loop-entry-preserved c =
    adds_mapped (taken Named (question_of c.args.scope.now)) c.args.entries.now c.loop-entry.entry-index c.entry-item.result
    c.args.gatherer.now c.loop-entry.gatherer c.add.new.self (omega arith) c.entry-item.is c.loop-entry.invariant
    (subst (λ (t : Taken). Adds c.loop-entry.gatherer (t ∷ []) c.add.new.self) c.named.ensures c.in_ok-add.ensures)

pub returns : goal.returns
returns c =
    let past : length c.args.entries.now ≤ c.loop-entry.entry-index = omega arith in
    let all = take_all c.loop-entry.entry-index c.args.entries.now past in
    subst (λ (es : List Entry). Adds c.args.gatherer.now (map (taken Named (question_of c.args.scope.now)) es) c.loop-entry.gatherer) all c.loop-entry.invariant
