use Rattle.std.proofs.Common.{sym}
use Rattle.web_messages.proofs.ReceiptLemmas.{front_all}
use Rattle.web_messages.proofs.receive.front_of.Goals as goal

pub returns-then-bytes-le-MOST_HEAD-clause-value : goal.returns-then-bytes-le-MOST_HEAD-clause-value
returns-then-bytes-le-MOST_HEAD-clause-value c = sym (front_all c.args.bytes.now c.if-bytes-le-MOST_HEAD.true)
