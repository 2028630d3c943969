use Rattle.std.proofs.Common.{◌≡◌, true, ℕ, List, ◌∙◌, inl, inr, refl, sym, subst}
use Rattle.web_desk.specs.Answers.{refusal_message}
use Rattle.web_desk.specs.Served.{IsFrontOf}
use Rattle.web_desk.specs.Turns.{ClosesSo}
use Rattle.web_desk.proofs.AnswerLemmas.{sends_more, sends_nothing}
use Rattle.web_desk.proofs.ServeLemmas.{stop_says, stop_silent}
use Rattle.web_desk.proofs.serve.finish.Goals as goal

pub returns-in-None-clause-told : goal.returns-in-None-clause-told
returns-in-None-clause-told g c =
    let sent = g.K.Link.sent c.args.link.now in
    sends_nothing sent sent (λ text. ClosesSo c.args.at c.args.stop c.end_of_stop.result text) refl (inl (c.end_of_stop.ensures, sym (stop_silent c.args.stop c.in-None.ensures)))

pub returns-in-Ok-clause-told : goal.returns-in-Ok-clause-told
returns-in-Ok-clause-told g c =
    let said = stop_says c.args.stop c.in-Some.refusal c.in-Some.ensures in
    sends_more (g.K.Link.sent c.args.link.now) (g.K.Link.sent c.send_refusal.new.link)
    (λ text. text ≡ refusal_message true c.in-Some.refusal)
    (λ text. ClosesSo c.args.at c.args.stop c.end_of_stop-in-Ok.result text)
    (λ text whole. inl (c.end_of_stop-in-Ok.ensures, whole ∙ sym said))
    c.in-Ok.ensures.told

pub returns-in-Err-clause-told : goal.returns-in-Err-clause-told
returns-in-Err-clause-told g c =
    let said = stop_says c.args.stop c.in-Some.refusal c.in-Some.ensures in
    sends_more (g.K.Link.sent c.args.link.now) (g.K.Link.sent c.send_refusal.new.link)
    (λ text. IsFrontOf text (refusal_message true c.in-Some.refusal))
    (λ text. ClosesSo c.args.at c.args.stop c.in-Err.end text)
    (λ text front. inr (c.in-Err.ensures.broken, subst (λ (whole : List ℕ). IsFrontOf text whole) (sym said) front))
    c.in-Err.ensures.told
