use Rattle.web_messages.proofs.HeadLemmas.{bad_judged, in_target}
use Rattle.web_messages.proofs.head.bad_or_open.Goals as goal

pub returns-then-is_inside_target : goal.returns-then-is_inside_target
returns-then-is_inside_target c = in_target c.args.bytes.now c.requires (c.is_inside_target.ensures.inside c.if-is_inside_target.true)

pub returns-else-is_inside_target : goal.returns-else-is_inside_target
returns-else-is_inside_target c = bad_judged c.args.bytes.now c.requires (c.is_inside_target.ensures.outside c.if-is_inside_target.false)
