use Rattle.std.proofs.Common.{◌≡◌, List, length, ◌*◌, ◌<◌, ◌≤◌}
use Rattle.desk.specs.Entries.{Entry}
use Rattle.web_desk.specs.Makers.{AreAsked}
use Rattle.web_messages.specs.Streams.{most_messages}
use Rattle.web_desk.proofs.ServeLemmas.{Ran}
use Rattle.web_desk.proofs.serve.serve_link.Given as goal

-- each message so far was answered, and others are allowed
abbrev pub invariant-messages : goal.invariant-messages
invariant-messages g l =
    let link = g.K.Link in
    record {
      few : l.count < most_messages;
      bound : l.at ≤ 8404992 * l.count;
      always : g.C.Clock.always l.clock ≡ g.C.Clock.always l.fn.clock;
      reads : link.read_faults l.link ≡ link.read_faults l.fn.link;
      writes : link.write_faults l.link ≡ link.write_faults l.fn.link;
      run : (entries : List Entry) × g.A.Ask.leads l.fn.ask entries l.ask
          × AreAsked (g.C.Clock.always l.fn.clock) (g.M.Maker.refusals l.fn.maker) (g.M.Maker.refusals l.maker)
          (g.M.Maker.last_refused l.fn.maker) (g.M.Maker.last_refused l.maker) entries
          × Ran l.fn.page (link.coming l.fn.link) (link.sent l.fn.link) (link.coming l.link) (link.sent l.link) l.incoming l.at l.count entries
          × length entries ≤ l.count;
    }
