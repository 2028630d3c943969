use Rattle.std.proofs.Common.{◌≡◌, ◌+◌, ◌-◌, cond, length}
use Rattle.web_messages.specs.Receipt.{Keeps}
use Rattle.web_messages.specs.Streams.{most_head}
use Rattle.web_messages.proofs.receive.read_head.Given as goal

-- the rest of the stream stayed, and nothing was sent or failed
abbrev pub invariant-heads : goal.invariant-heads
invariant-heads g l =
    let link = g.K.Link in
    record {
      stream : Keeps (link.coming l.fn.link) l.fn.incoming (link.coming l.link) l.incoming;
      sent : link.sent l.link ≡ link.sent l.fn.link;
      reads : link.read_faults l.link ≡ link.read_faults l.fn.link;
      writes : link.write_faults l.link ≡ link.write_faults l.fn.link;
    }

-- how many bytes of a head may still come
abbrev pub decreases-heads : goal.decreases-heads
decreases-heads g l = cond l.incoming.ended 0 (1 + (most_head - length l.incoming.bytes))
