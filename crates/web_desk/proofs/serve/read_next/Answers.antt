use Rattle.web_messages.specs.declared.receive.Next.{Next}
use Rattle.web_desk.proofs.AnswerLemmas.{broken_ends, counted_ends}
use Rattle.web_desk.proofs.serve.read_next.Goals as goal

pub returns-in-Err-clause-broken : goal.returns-in-Err-clause-broken
returns-in-Err-clause-broken g c = broken_ends c.end_of_broken.result c.in-Err.cause c.end_of_broken.ensures

pub returns-in-Err-clause-counted : goal.returns-in-Err-clause-counted
returns-in-Err-clause-counted g c =
    counted_ends Next c.end_of_broken.result c.in-Err.cause (g.K.Link.read_faults c.args.link.now) (g.K.Link.read_faults c.next_message.new.link)
    (g.K.Link.write_faults c.args.link.now) (g.K.Link.write_faults c.next_message.new.link) c.end_of_broken.ensures c.in-Err.ensures.counted
