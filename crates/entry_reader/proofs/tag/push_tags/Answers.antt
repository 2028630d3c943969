use Rattle.std.proofs.Common.{sym, ◌∙◌}
use Rattle.entry_reader.proofs.TagSteps.{tags_more, tags_all}
use Rattle.entry_reader.proofs.tag.push_tags.Goals as goal

pub loop-rest-preserved : goal.loop-rest-preserved
loop-rest-preserved c = record {
  so_far = rw c.after_tag-rest.ensures.value (tags_more c.loop-rest.tags.items c.args.tags.now.items c.push_tag.new.tags.items c.loop-rest.rest.now c.args.text.now (sym c.has.ensures ∙ c.loop-rest-test.true) c.in_ok-push_tag.ensures c.loop-rest.invariant.so_far);
  utf8 = c.after_tag-rest.ensures.utf8 c.loop-rest.invariant.utf8;
}

pub returns : goal.returns
returns c = tags_all c.loop-rest.tags.items c.args.tags.now.items c.loop-rest.rest.now c.args.text.now (sym c.has.ensures ∙ c.loop-rest-test.false) c.loop-rest.invariant.so_far
