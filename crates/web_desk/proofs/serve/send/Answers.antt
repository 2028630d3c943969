use Rattle.web_desk.proofs.AnswerLemmas.{all_sent, front_sent}
use Rattle.web_desk.proofs.serve.send.Goals as goal

pub returns-in-Err-clause-told : goal.returns-in-Err-clause-told
returns-in-Err-clause-told g c =
    front_sent (g.K.Link.sent c.args.link.now) (g.K.Link.sent c.send_all.new.link) c.as_slice.result.now c.args.reply.now c.as_slice.ensures c.in-Err.ensures.prefix

pub returns-in-Ok-clause-told : goal.returns-in-Ok-clause-told
returns-in-Ok-clause-told g c =
    all_sent (g.K.Link.sent c.args.link.now) (g.K.Link.sent c.send_all.new.link) c.as_slice.result.now c.args.reply.now c.as_slice.ensures c.in-Ok.ensures.ok
