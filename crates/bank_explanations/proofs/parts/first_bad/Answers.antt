use Rattle.std.proofs.Common.{sym, ◌∙◌}
use Rattle.std.proofs.lemmas.List.{nil_from_length}
use Rattle.bank_explanations.specs.Parts.{first_bad}
use Rattle.bank_explanations.proofs.Finding.{no_more, not_this, this_one}
use Rattle.bank_explanations.proofs.parts.first_bad.Goals as goal

pub loop-first-preserved : goal.loop-first-preserved
loop-first-preserved c =
    not_this c.args.context.now c.args.fields.now (first_bad c.args.context.now c.args.fields.now c.args.judged.now) c.loop-first.rest.now c.in-Some.more.now c.in-Some.first.now c.loop-first.invariant
    c.in-Some.ensures.cases.0 (sym c.in_ok-valid.ensures ∙ c.if-not-valid.false)

pub returns-then-not-valid : goal.returns-then-not-valid
returns-then-not-valid c =
    this_one c.args.context.now c.args.fields.now (first_bad c.args.context.now c.args.fields.now c.args.judged.now) c.loop-first.rest.now c.in-Some.more.now c.in-Some.first.now c.loop-first.invariant
    c.in-Some.ensures.cases.0 (sym c.in_ok-valid.ensures ∙ c.if-not-valid.true)

pub returns : goal.returns
returns c =
    no_more c.args.context.now c.args.fields.now (first_bad c.args.context.now c.args.fields.now c.args.judged.now) c.loop-first.rest.now c.loop-first.invariant
    (nil_from_length c.loop-first.rest.now c.in_default.ensures.cases)
