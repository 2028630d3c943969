use Rattle.std.proofs.Common.{rules}
use Rattle.web_messages.proofs.HeadLemmas.{whole_judged}
use Rattle.web_messages.proofs.head.judge.Goals as goal

pub returns-in-Ok-Complete : goal.returns-in-Ok-Complete
returns-in-Ok-Complete c =
    let whole = rw c.in-Ok-Complete.field-0-is at c.in-Ok-Complete.ensures in
    whole_judged c.args.bytes.now c.parse_request.new.headers c.in-Ok-Complete.found c.in_ok-head_at-in-Ok-Complete.field-0 (search rules) whole.complete c.in_ok-head_at-in-Ok-Complete.ensures
