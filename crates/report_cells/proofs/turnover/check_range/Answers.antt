use Rattle.std.proofs.Common.{◌≡◌, ◌<◌, ◌≤◌, ℕ, List, length, take_all, Some, Option, sym, ap, subst, ◌∙◌, arith}
use Rattle.report_cells.specs.Taken.{Shared, Taken}
use Rattle.report_cells.specs.Kept.{HasFewPlaces}
use Rattle.report_cells.specs.Turned.{turned_with}
use Rattle.report_cells.proofs.Sizes.{Sized, first-is, small_from}
use Rattle.report_cells.proofs.Walking.{checking_more}
use Rattle.report_cells.proofs.turnover.check_range.Goals as goal

pub loop-taking-preserved : goal.loop-taking-preserved
loop-taking-preserved c =
    let kept = c.loop-taking.kept.entries in
    let t = c.taking-item.result in
    let within : c.loop-taking.taking-index < length c.args.takings.now = omega arith in
    let amount : c.taking.inside.amount ≡ t.amount = ap (λ (t : Taken). t.amount) c.taking.view_is in
    checking_more kept c.note.new.kept.entries c.args.takings.now c.loop-taking.taking-index t within c.taking-item.is c.loop-taking.invariant
    (subst HasFewPlaces amount c.in_ok-note.ensures.few)
    (c.in_ok-note.ensures.new ∙ ap (λ (a : Option Shared). turned_with a kept) amount)

pub returns-in_ok-symbol-in-Some-clause-fault : goal.returns-in_ok-symbol-in-Some-clause-fault
returns-in_ok-symbol-in-Some-clause-fault c =
    let kept = c.loop-taking.kept.entries in
    let past : length c.args.takings.now ≤ c.loop-taking.taking-index = omega arith in
    let all = take_all c.loop-taking.taking-index c.args.takings.now past in
    let sized = subst (Sized kept) all c.loop-taking.invariant.sized in
    first-is kept c.args.takings.now sized ∙ sym c.in-Some.ensures
    ∙ ap (λ (s : List ℕ). Some s) (sym (c.in_ok-symbol-in-Some.ensures ∙ c.as_str.ensures))

pub returns-in-None-clause-fits : goal.returns-in-None-clause-fits
returns-in-None-clause-fits c =
    let kept = c.loop-taking.kept.entries in
    let past : length c.args.takings.now ≤ c.loop-taking.taking-index = omega arith in
    let all = take_all c.loop-taking.taking-index c.args.takings.now past in
    let sized = subst (Sized kept) all c.loop-taking.invariant.sized in
    small_from kept c.args.takings.now sized (sym c.in-None.ensures)

pub returns-in-None-clause-none : goal.returns-in-None-clause-none
returns-in-None-clause-none c =
    let kept = c.loop-taking.kept.entries in
    let past : length c.args.takings.now ≤ c.loop-taking.taking-index = omega arith in
    let all = take_all c.loop-taking.taking-index c.args.takings.now past in
    let sized = subst (Sized kept) all c.loop-taking.invariant.sized in
    first-is kept c.args.takings.now sized ∙ sym c.in-None.ensures
