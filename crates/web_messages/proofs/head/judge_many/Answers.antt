use Rattle.std.proofs.Common.{length, rules, refl}
use Rattle.web_messages.proofs.HeadLemmas.{never_exceeds}
use Rattle.web_messages.proofs.head.judge_many.Goals as goal

pub unreachable-requires : goal.unreachable-requires
unreachable-requires c =
    let err = rw c.in-Err-TooManyHeaders.field-0-is at c.in-Err-TooManyHeaders.ensures in
    never_exceeds c.args.bytes.now (length c.deref_mut.result.now) (search rules) (err.too_many refl)
