use Rattle.std.proofs.Common.{rules}
use Rattle.web_messages.proofs.ReceiptLemmas.{shrinks}
use Rattle.web_messages.proofs.receive.read_head.Goals as goal

pub heads-smaller : goal.heads-smaller
heads-smaller g c =
    shrinks c.heads.incoming.ended c.receive.new.self.ended _ _ (search rules) c.in_ok-receive.ensures.longer
