use Rattle.std.proofs.Common.{length, rules, ap, sym}
use Rattle.web_messages.proofs.ReceiptLemmas.{more_read, end_read, goes_on}
use Rattle.web_messages.proofs.incoming.Incoming.receive.Goals as goal

pub returns-then-count-eq0-clause-stream : goal.returns-then-count-eq0-clause-stream
returns-then-count-eq0-clause-stream g c rest s =
    end_read _ _ c.args.self.now c.self.inside.held.items c.read.new.room rest c.self.inside.start c.in-Ok.count (length c.as_mut_slice-room.result.now)
    (sym (ap (λ u. u.bytes) c.self.view_is)) c.if-count-eq0.true (search rules) c.in-Ok.ensures.told c.in-Ok.ensures.end s

pub returns-clause-on : goal.returns-clause-on
returns-clause-on g c =
    goes_on c.args.self.now c.self.inside.held.items c.extend_from_slice.new.self.items c.split_at.result.0.now c.self.inside.start
    (search rules) (sym (ap (λ u. u.bytes) c.self.view_is)) (search rules)

pub returns-clause-stream : goal.returns-clause-stream
returns-clause-stream g c rest s =
    more_read _ _ c.args.self.now c.self.inside.held.items c.extend_from_slice.new.self.items c.read.new.room c.split_at.result.0.now rest
    c.self.inside.start c.in-Ok.count c.self.inside.ended
    (search rules) (sym (ap (λ u. u.bytes) c.self.view_is)) (search rules) (search rules) c.split_at.ensures.front c.in-Ok.ensures.told s
