use Rattle.std.proofs.Common.{List, map, subst, ◌∙◌}
use Rattle.report_cells.specs.Gathered.{Adds}
use Rattle.report_cells.proofs.Adds.{adds_both, begun_after}
use Rattle.report_cells.proofs.Walking.{on_ok}
use Rattle.report_takings.specs.Asking.{question_of}
use Rattle.report_takings.specs.Entries.{Entry}
use Rattle.report_takings.specs.Takings.{taken}
use Rattle.report_takings.specs.Walked.{kept_as}
use Rattle.report_takings.specs.declared.entries.Part.TheVariants.{Counted, Named}
use Rattle.report_takings.proofs.gathering.gather_kept.Goals as goal

pub gather_named-requires : goal.gather_named-requires
gather_named-requires c =
    begun_after c.args.gatherer.now c.gather_written.new.gatherer (kept_as Counted (question_of c.args.scope.now) c.args.shown) c.requires.begun c.in_ok-gather_written.ensures

pub returns : goal.returns
returns c =
    let asked = question_of c.args.scope.now in
    let g = c.args.gatherer.now in
    let h = c.gather_written.new.gatherer in
    let k = c.gather_named.new.gatherer in
    on_ok c.gather_named.result
    (λ named. adds_both g h k (kept_as Counted asked c.args.shown) (kept_as Named asked c.args.shown) c.in_ok-gather_written.ensures
    (subst (λ (es : List Entry). Adds h (map (taken Named asked) es) k) (c.deref.ensures.value ∙ c.in_ok-others.ensures) named))
    c.gather_named.ensures
