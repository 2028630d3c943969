use Rattle.std.proofs.Common.{sym, ap, ◌∙◌}
use Rattle.entry_reader.specs.Comments.{date_value}
use Rattle.entry_reader.proofs.TagSteps.{date_here, date_later, date_nowhere}
use Rattle.entry_reader.proofs.tag.find_date.Goals as goal

pub returns-then-is_date : goal.returns-then-is_date
returns-then-is_date c =
    date_here c.loop-rest.rest.now c.args.text.now c.tag_name.result.now c.tag_value.result.now (sym c.has.ensures ∙ c.loop-rest-test.true) c.tag_name.ensures.value (sym c.is_date.ensures ∙ c.if-is_date.true) c.tag_value.ensures.value c.loop-rest.invariant

pub loop-rest-preserved : goal.loop-rest-preserved
loop-rest-preserved c =
    ap date_value c.after_tag-rest.ensures.value ∙ date_later c.loop-rest.rest.now c.args.text.now c.tag_name.result.now (sym c.has.ensures ∙ c.loop-rest-test.true) c.tag_name.ensures.value (sym c.is_date.ensures ∙ c.if-is_date.false) c.loop-rest.invariant

pub returns : goal.returns
returns c = date_nowhere c.loop-rest.rest.now c.args.text.now (sym c.has.ensures ∙ c.loop-rest-test.false) c.loop-rest.invariant
