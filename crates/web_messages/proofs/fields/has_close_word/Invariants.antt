use Rattle.std.proofs.Common.{◌≡◌, length}
use Rattle.web_messages.specs.Fields.{has_close}
use Rattle.web_messages.proofs.fields.has_close_word.Given as goal

abbrev pub invariant-loop-rest : goal.invariant-loop-rest
invariant-loop-rest l = has_close l.fn.value ≡ has_close l.rest

abbrev pub decreases-loop-rest : goal.decreases-loop-rest
decreases-loop-rest l = length l.rest
