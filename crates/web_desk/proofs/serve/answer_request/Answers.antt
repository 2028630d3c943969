use Rattle.std.proofs.Common.{◌≡◌, ℕ, List, [], ◌∷◌, ◌∙◌, Ok, Err, Result, ap, sym, subst, refl}
use Rattle.std.proofs.lemmas.Result.{err_from_is_err_and}
use Rattle.web_desk.specs.declared.conn_end.ConnEnd.{ConnEnd}
use Rattle.web_desk.specs.declared.conn_end.ConnEnd.TheVariants as conn
use Rattle.web_desk.specs.Answers.{entry_message}
use Rattle.desk.specs.Entries.{Entry}
use Rattle.web_desk.specs.Turns.{SentSo, AnswersSo}
use Rattle.web_desk.specs.Sent.{Sends}
use Rattle.web_desk.proofs.AnswerLemmas.{sends_more, sends_nothing, entry_answers, entry_unanswered}
use Rattle.web_desk.proofs.MakerLemmas.{none_told, one_asked}
use Rattle.web_desk.proofs.serve.answer_request.Goals as goal

pub returns-in_err-text-clause-answered : goal.returns-in_err-text-clause-answered
returns-in_err-text-clause-answered g c =
    let entry : Entry = record { request = c.args.request.now; day = record { 0 = c.day.result }; reply = c.in-Ok.reply; revision = c.in-Ok.revision } in
    let sent = g.K.Link.sent c.args.link.now in
    let p = err_from_is_err_and c.from_residual.result c.from_residual.ensures.1 in
    let e : c.from_residual.result ≡ Err conn.Memory = p.1 ∙ ap Err p.2 in
    let R : Result (Unit {0}) ConnEnd → Type 0 = λ r. AnswersSo c.args.closing (Ok c.args.request.now) r (entry ∷ []) [] in (
      entry ∷ [],
      c.in-Ok.ensures.answered,
      one_asked (g.C.Clock.always c.args.clock.now) (g.M.Maker.refusals c.args.maker.now) (g.M.Maker.refusals c.ask.new.maker) (g.M.Maker.last_refused c.args.maker.now)
          (g.M.Maker.last_refused c.ask.new.maker) entry c.day.result refl c.day.ensures.told c.in-Ok.ensures.maker,
      sends_nothing sent sent (λ text. AnswersSo c.args.closing (Ok c.args.request.now) c.from_residual.result (entry ∷ []) text) refl
          (subst R (sym e) (entry_unanswered c.args.closing entry)),
    )

pub returns-in_default-clause-answered : goal.returns-in_default-clause-answered
returns-in_default-clause-answered g c =
    let sent = g.K.Link.sent c.args.link.now in (
      [],
      c.in_default.ensures.spent,
      none_told (g.C.Clock.always c.args.clock.now) (g.M.Maker.refusals c.args.maker.now) (g.M.Maker.refusals c.ask.new.maker) (g.M.Maker.last_refused c.args.maker.now)
          (g.M.Maker.last_refused c.ask.new.maker) c.in_default.ensures.maker,
      sends_nothing sent sent (λ text. AnswersSo c.args.closing (Ok c.args.request.now) (Err conn.Spent) [] text) refl (c.args.request.now, refl, refl, refl),
    )

pub returns-clause-answered : goal.returns-clause-answered
returns-clause-answered g c =
    let entry : Entry = record { request = c.args.request.now; day = record { 0 = c.day.result }; reply = c.in-Ok.reply; revision = c.in-Ok.revision } in
    let sent = g.K.Link.sent c.args.link.now in
    let sent_now = g.K.Link.sent c.send.new.link in
    let P : List ℕ → Type 0 = λ m. Sends sent sent_now (λ text. SentSo c.send.result m text) in
    let told = subst P c.in_ok-text.ensures c.send.ensures.told in (
      entry ∷ [],
      c.in-Ok.ensures.answered,
      one_asked (g.C.Clock.always c.args.clock.now) (g.M.Maker.refusals c.args.maker.now) (g.M.Maker.refusals c.ask.new.maker) (g.M.Maker.last_refused c.args.maker.now)
          (g.M.Maker.last_refused c.ask.new.maker) entry c.day.result refl c.day.ensures.told c.in-Ok.ensures.maker,
      sends_more sent sent_now (λ text. SentSo c.send.result (entry_message c.args.closing entry) text)
          (λ text. AnswersSo c.args.closing (Ok c.args.request.now) c.send.result (entry ∷ []) text)
          (λ text s. entry_answers c.send.result c.args.closing entry text c.send.ensures.broken s) told,
    )
