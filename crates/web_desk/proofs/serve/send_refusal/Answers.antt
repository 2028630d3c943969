use Rattle.std.proofs.Common.{true, ℕ, List, subst}
use Rattle.std.proofs.lemmas.Result.{err_from_is_err_and}
use Rattle.web_desk.specs.Answers.{refusal_message}
use Rattle.web_desk.specs.Turns.{SentSo}
use Rattle.web_desk.specs.Sent.{Sends}
use Rattle.web_desk.proofs.AnswerLemmas.{unsent}
use Rattle.web_desk.proofs.serve.send_refusal.Goals as goal

pub returns-in_err-reply-clause-told : goal.returns-in_err-reply-clause-told
returns-in_err-reply-clause-told g c =
    let p = err_from_is_err_and c.from_residual.result c.from_residual.ensures.1 in
    unsent (g.K.Link.sent c.args.link.now) c.from_residual.result p.0 (refusal_message true c.args.refusal) p.1

pub returns-clause-told : goal.returns-clause-told
returns-clause-told g c =
    let P : List ℕ → Type 0 = λ m. Sends (g.K.Link.sent c.args.link.now) (g.K.Link.sent c.send.new.link) (λ text. SentSo c.send.result m text) in
    subst P c.in_ok-reply.ensures c.send.ensures.told
