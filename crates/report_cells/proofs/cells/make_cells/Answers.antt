use Rattle.std.proofs.Common.{◌≤◌, List, length, take, take_all, subst, arith}
use Rattle.report_cells.specs.Gathered.{Gathers}
use Rattle.report_cells.specs.Taken.{Taken}
use Rattle.report_cells.proofs.Adds.{begun_of}
use Rattle.report_cells.proofs.Finishing.{gathers_next, made_columns, made_rows, made_totals, made_within, made_fault}
use Rattle.report_cells.proofs.cells.make_cells.Goals as goal

pub loop-taking-init : goal.loop-taking-init
loop-taking-init c = c.new-gatherer.ensures

pub add-requires : goal.add-requires
add-requires c = begun_of c.args.columns c.args.reach (take c.loop-taking.taking-index c.args.takings.now) c.loop-taking.gatherer c.loop-taking.invariant

pub loop-taking-preserved : goal.loop-taking-preserved
loop-taking-preserved c =
    gathers_next c.args.columns c.args.reach c.args.takings.now c.loop-taking.taking-index c.taking-item.result c.loop-taking.gatherer c.add.new.self
    (omega arith) c.taking-item.is c.loop-taking.invariant c.in_ok-add.ensures

pub finish-requires : goal.finish-requires
finish-requires c = begun_of c.args.columns c.args.reach (take c.loop-taking.taking-index c.args.takings.now) c.loop-taking.gatherer c.loop-taking.invariant

pub returns-clause-columns : goal.returns-clause-columns
returns-clause-columns c =
    let past : length c.args.takings.now ≤ c.loop-taking.taking-index = omega arith in
    let all = take_all c.loop-taking.taking-index c.args.takings.now past in
    made_columns c.args.columns c.args.reach c.args.takings.now c.finish.result
    (c.finish.ensures c.args.columns c.args.reach c.args.takings.now
    (subst (λ (ts : List Taken). Gathers c.args.columns c.args.reach ts c.loop-taking.gatherer) all c.loop-taking.invariant))

pub returns-clause-rows : goal.returns-clause-rows
returns-clause-rows c =
    let past : length c.args.takings.now ≤ c.loop-taking.taking-index = omega arith in
    let all = take_all c.loop-taking.taking-index c.args.takings.now past in
    made_rows c.args.columns c.args.reach c.args.takings.now c.finish.result
    (c.finish.ensures c.args.columns c.args.reach c.args.takings.now
    (subst (λ (ts : List Taken). Gathers c.args.columns c.args.reach ts c.loop-taking.gatherer) all c.loop-taking.invariant))

pub returns-clause-totals : goal.returns-clause-totals
returns-clause-totals c =
    let past : length c.args.takings.now ≤ c.loop-taking.taking-index = omega arith in
    let all = take_all c.loop-taking.taking-index c.args.takings.now past in
    made_totals c.args.columns c.args.reach c.args.takings.now c.finish.result
    (c.finish.ensures c.args.columns c.args.reach c.args.takings.now
    (subst (λ (ts : List Taken). Gathers c.args.columns c.args.reach ts c.loop-taking.gatherer) all c.loop-taking.invariant))

pub returns-clause-within : goal.returns-clause-within
returns-clause-within c =
    let past : length c.args.takings.now ≤ c.loop-taking.taking-index = omega arith in
    let all = take_all c.loop-taking.taking-index c.args.takings.now past in
    made_within c.args.columns c.args.reach c.args.takings.now c.finish.result
    (c.finish.ensures c.args.columns c.args.reach c.args.takings.now
    (subst (λ (ts : List Taken). Gathers c.args.columns c.args.reach ts c.loop-taking.gatherer) all c.loop-taking.invariant))

pub returns-clause-fault : goal.returns-clause-fault
returns-clause-fault c =
    let past : length c.args.takings.now ≤ c.loop-taking.taking-index = omega arith in
    let all = take_all c.loop-taking.taking-index c.args.takings.now past in
    made_fault c.args.columns c.args.reach c.args.takings.now c.finish.result
    (c.finish.ensures c.args.columns c.args.reach c.args.takings.now
    (subst (λ (ts : List Taken). Gathers c.args.columns c.args.reach ts c.loop-taking.gatherer) all c.loop-taking.invariant))
