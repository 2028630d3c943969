use Rattle.std.proofs.Common.{◌≡◌, ◌∙◌, [], Err, Result, ap, sym, subst, refl, inl}
use Rattle.std.proofs.lemmas.Result.{err_from_is_err_and}
use Rattle.desk.specs.declared.request.Request.{Request}
use Rattle.web_desk.specs.declared.conn_end.ConnEnd.{ConnEnd}
use Rattle.web_desk.specs.declared.conn_end.ConnEnd.TheVariants as conn
use Rattle.web_desk.specs.declared.own_reply.OwnReply.{OwnReply}
use Rattle.web_desk.specs.Calls.{call_at}
use Rattle.web_desk.specs.Turns.{AnswersSo}
use Rattle.web_desk.specs.Sent.{Sends}
use Rattle.web_desk.proofs.AnswerLemmas.{sends_nothing}
use Rattle.web_desk.proofs.MakerLemmas.{none_asked}
use Rattle.web_desk.proofs.serve.answer.Goals as goal

pub returns-in_err-request-clause-answered : goal.returns-in_err-request-clause-answered
returns-in_err-request-clause-answered g c =
    let sent = g.K.Link.sent c.args.link.now in
    let head = c.args.head.now in
    let call = call_at c.args.page.now head.route head.query c.args.body.now in
    let p = err_from_is_err_and c.from_residual.result c.from_residual.ensures.1 in
    let e : c.from_residual.result ≡ Err conn.Memory = p.1 ∙ ap Err p.2 in
    let R : Result (Unit {0}) ConnEnd → Type 0 = λ r. AnswersSo c.args.closing call r [] [] in (
      [],
      g.met.A.Ask.none c.args.ask.now,
      none_asked (g.C.Clock.always c.args.clock.now) (g.M.Maker.refusals c.args.maker.now) (g.M.Maker.last_refused c.args.maker.now),
      sends_nothing sent sent (λ text. AnswersSo c.args.closing call c.from_residual.result [] text) refl (subst R (sym e) (inl (refl, refl))),
    )

pub returns-in-Err-clause-answered : goal.returns-in-Err-clause-answered
returns-in-Err-clause-answered g c =
    let sent = g.K.Link.sent c.args.link.now in
    let sent_now = g.K.Link.sent c.answer_own.new.link in
    let P : Result Request OwnReply → Type 0 = λ call. Sends sent sent_now (λ text. AnswersSo c.args.closing call c.answer_own.result [] text) in
    let head = c.args.head.now in
    let body = c.args.body.now in
    let e : Err c.in-Err.own ≡ call_at c.args.page.now head.route head.query body =
    sym c.in-Err.is ∙ (c.in_ok-request.ensures ∙ ap (λ q. call_at c.args.page.now head.route q body) c.as_slice.ensures) in
    ([], g.met.A.Ask.none c.args.ask.now, none_asked (g.C.Clock.always c.args.clock.now) (g.M.Maker.refusals c.args.maker.now) (g.M.Maker.last_refused c.args.maker.now), subst P e c.answer_own.ensures.answered)
