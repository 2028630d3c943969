use Rattle.std.proofs.Common.{ap, length}
use Rattle.generated.proofs.Keeping.{remembers_more, then_so}
use Rattle.generated.proofs.remembering.Remembered.keep.Goals as goal

pub returns : goal.returns
returns c =
    then_so c.put.result _ _ (λ put asked verdicts so.
    remembers_more asked c.args.self.now _ c.args.account.now c.args.known (length c.as_slice-place.result.now) c.in_ok-push.ensures.items (ap length c.as_slice-place.ensures.value) put verdicts so)
    c.put.ensures
