use Rattle.std.proofs.Common.{◌≡◌, ◌+◌, ◌-◌, cond, length}
use Rattle.web_messages.specs.Receipt.{Keeps, GoesOn}
use Rattle.web_messages.proofs.receive.read_body.Given as goal

-- what came before the loop is still there, and nothing was sent or failed
abbrev pub invariant-loop-incoming : goal.invariant-loop-incoming
invariant-loop-incoming g l =
    let link = g.K.Link in
    record {
      stream : Keeps (link.coming l.fn.link) l.fn.incoming (link.coming l.link) l.incoming;
      on : GoesOn l.fn.incoming.bytes l.incoming.bytes;
      sent : link.sent l.link ≡ link.sent l.fn.link;
      reads : link.read_faults l.link ≡ link.read_faults l.fn.link;
      writes : link.write_faults l.link ≡ link.write_faults l.fn.link;
    }

-- how many bytes are still wanted
abbrev pub decreases-loop-incoming : goal.decreases-loop-incoming
decreases-loop-incoming g l = cond l.incoming.ended 0 (1 + (l.total - length l.incoming.bytes))
