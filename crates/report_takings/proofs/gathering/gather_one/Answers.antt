use Rattle.std.proofs.Common.{◌≡◌, Bool, true, false, List, [], ◌∷◌, sym, ap, subst, ◌∙◌}
use Rattle.report_cells.specs.Gathered.{Adds}
use Rattle.report_cells.specs.Taken.{Taken}
use Rattle.report_cells.proofs.Adds.{adds_none}
use Rattle.report_cells.proofs.Walking.{on_ok}
use Rattle.report_takings.specs.Asking.{question_of}
use Rattle.report_takings.specs.Entries.{Entry}
use Rattle.report_takings.specs.Takings.{is_chosen, taken}
use Rattle.report_takings.specs.Walked.{taken_of}
use Rattle.report_takings.specs.declared.entries.Part.TheVariants.{Counted}
use Rattle.report_takings.proofs.Keeping.{taken_none, taken_some}
use Rattle.report_takings.proofs.gathering.gather_one.Goals as goal

pub returns-then-chosen-clause-added : goal.returns-then-chosen-clause-added
returns-then-chosen-clause-added c =
    let asked = question_of c.args.scope.now in
    let e = c.args.entry.now in
    let chosen : is_chosen asked.options.start asked c.args.shown e ≡ true =
    (λ i. is_chosen asked.options.start asked c.args.shown (sym c.posting.ensures i, sym c.txn.ensures i)) ∙ sym c.is_chosen-chosen.ensures.chosen ∙ c.if-chosen.true in
    on_ok c.add.result
    (λ added. subst (λ (ts : List Taken). Adds c.args.gatherer.now ts c.add.new.self) (ap (λ (t : Taken). t ∷ []) c.counted.ensures ∙ sym (taken_some asked c.args.shown e chosen)) added)
    c.add.ensures

pub returns-clause-added : goal.returns-clause-added
returns-clause-added c =
    let asked = question_of c.args.scope.now in
    let e = c.args.entry.now in
    let passed : is_chosen asked.options.start asked c.args.shown e ≡ false =
    (λ i. is_chosen asked.options.start asked c.args.shown (sym c.posting.ensures i, sym c.txn.ensures i)) ∙ sym c.is_chosen-chosen.ensures.chosen ∙ c.if-chosen.false in
    subst (λ (ts : List Taken). Adds c.args.gatherer.now ts c.args.gatherer.now) (sym (taken_none asked c.args.shown e passed)) (adds_none c.args.gatherer.now)
