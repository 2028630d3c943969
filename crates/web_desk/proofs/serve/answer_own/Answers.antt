use Rattle.std.proofs.Common.{ℕ, List, [], Err, subst}
use Rattle.web_desk.specs.Answers.{own_message}
use Rattle.web_desk.specs.Turns.{SentSo, AnswersSo}
use Rattle.web_desk.specs.Sent.{Sends}
use Rattle.web_desk.proofs.AnswerLemmas.{sends_more, own_answers}
use Rattle.web_desk.proofs.serve.answer_own.Goals as goal

pub returns-clause-answered : goal.returns-clause-answered
returns-clause-answered g c =
    let sent = g.K.Link.sent c.args.link.now in
    let sent_now = g.K.Link.sent c.send.new.link in
    let P : List ℕ → Type 0 = λ m. Sends sent sent_now (λ text. SentSo c.send.result m text) in
    let told = subst P c.in_ok-text.ensures c.send.ensures.told in
    sends_more sent sent_now (λ text. SentSo c.send.result (own_message c.args.closing c.args.own) text)
    (λ text. AnswersSo c.args.closing (Err c.args.own) c.send.result [] text)
    (λ text s. own_answers c.send.result c.args.closing c.args.own text c.send.ensures.broken s) told
