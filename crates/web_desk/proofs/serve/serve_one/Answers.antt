use Rattle.std.proofs.Common.{◌∙◌, ℕ, List, [], ◌++◌, true, false, Option, Ok, Err, ap, sym, subst, refl, drop, take, arith}
use Rattle.std.proofs.lemmas.Result.{err_from_is_err_and}
use Rattle.web_desk.specs.declared.conn_end.ConnEnd.TheVariants as conn
use Rattle.web_messages.specs.declared.receive.Next.{Next}
use Rattle.web_messages.specs.Receipt.{NextSo}
use Rattle.web_desk.specs.Served.{Finishes, asks}
use Rattle.web_messages.specs.Streams.{is_last}
use Rattle.web_desk.specs.Turns.{ClosesSo, AnswersSo, StepSo}
use Rattle.web_desk.specs.Sent.{Sends}
use Rattle.web_desk.proofs.AnswerLemmas.{sends_more, sends_nothing}
use Rattle.web_desk.proofs.FewEntries.{one_at_most}
use Rattle.web_desk.proofs.MakerLemmas.{none_asked}
use Rattle.web_desk.proofs.ServeLemmas.{stops, finishes_stop, finishes_unread, finishes_failed, finishes_last, step_on, call_is, after_message, one_end, one_on, told_as, last_is, after_use}
use Rattle.web_desk.proofs.serve.serve_one.Goals as goal

pub returns-in_err-stop-clause-served : goal.returns-in_err-stop-clause-served
returns-in_err-stop-clause-served g c =
    let link = g.K.Link in
    let p = err_from_is_err_and c.from_residual.result c.from_residual.ensures.1 in (
      [],
      g.met.A.Ask.none c.args.ask.now,
      none_asked (g.C.Clock.always c.args.clock.now) (g.M.Maker.refusals c.args.maker.now) (g.M.Maker.last_refused c.args.maker.now),
      λ rest s.
          one_end c.args.page.now (link.sent c.args.link.now) (link.sent c.read_next.new.link) (link.coming c.read_next.new.link) c.read_next.new.incoming
          c.args.at c.args.count rest c.from_residual.result c.in_err-stop.field-0.0 [] (p.1 ∙ ap Err p.2)
          (sends_nothing (link.sent c.args.link.now) (link.sent c.read_next.new.link)
          (λ text. Finishes c.args.page.now c.args.at c.args.count rest c.in_err-stop.field-0.0 [] text) c.in_err-stop.ensures.sent
          (finishes_unread c.args.page.now c.args.at c.args.count rest c.in_err-stop.field-0.0 c.in_err-stop.ensures.broken)),
      omega arith,
    )

pub returns-in-Stopped-clause-served : goal.returns-in-Stopped-clause-served
returns-in-Stopped-clause-served g c =
    let link = g.K.Link in
    let u = c.read_next.new.incoming in
    let P : Next → Type 0 = λ n. NextSo u.ended u.bytes n in
    let stopped = subst P c.in-Stopped.is c.in_ok-stop.ensures.next in
    let S : Option (List ℕ) → Type 0 = λ sent. Sends sent (link.sent c.finish.new.link) (λ text. ClosesSo c.args.at c.in-Stopped.stop c.finish.result text) in (
      [],
      g.met.A.Ask.none c.args.ask.now,
      none_asked (g.C.Clock.always c.args.clock.now) (g.M.Maker.refusals c.args.maker.now) (g.M.Maker.last_refused c.args.maker.now),
      λ rest s.
          one_end c.args.page.now (link.sent c.args.link.now) (link.sent c.finish.new.link) (link.coming c.finish.new.link) u
          c.args.at c.args.count rest (Err c.finish.result) c.finish.result [] refl
          (sends_more (link.sent c.args.link.now) (link.sent c.finish.new.link)
          (λ text. ClosesSo c.args.at c.in-Stopped.stop c.finish.result text)
          (λ text. Finishes c.args.page.now c.args.at c.args.count rest c.finish.result [] text)
          (λ text closes. finishes_stop c.args.page.now c.args.at c.args.count rest c.in-Stopped.stop c.finish.result text
          (stops c.args.count (link.coming c.read_next.new.link) u rest c.in-Stopped.stop (c.in_ok-stop.ensures.stream rest s) stopped) closes)
          (subst S c.in_ok-stop.ensures.sent c.finish.ensures.told)),
      omega arith,
    )

pub returns-in_err-answer-in-Message-clause-served : goal.returns-in_err-answer-in-Message-clause-served
returns-in_err-answer-in-Message-clause-served g c =
    let link = g.K.Link in
    let u = c.read_next.new.incoming in
    let P : Next → Type 0 = λ n. NextSo u.ended u.bytes n in
    let n = subst P c.in-Message.is c.in_ok-stop.ensures.next in
    let head = c.in-Message.head in
    let body = c.split_at-in-Message.result.1.now in
    let end = c.in_err-answer-in-Message.field-0.0 in
    let called = call_is c.args.page.now head n.0 u.bytes body n.1 c.split_at.result.0.now c.in-Message.total n.4 n.3 n.5
    (c.split_at.ensures.front ∙ ap (λ l. take c.in-Message.total l) c.as_slice.ensures) c.split_at-in-Message.ensures.back in
    let closing = last_is head n.0 c.args.count c.closes_after-closing.result n.4 c.closes_after-closing.ensures in
    let answered = c.in_err-answer-in-Message.ensures.answered in
    let told = told_as (link.sent c.read_next.new.link) (link.sent c.args.link.now) (link.sent c.answer.new.link) _ _ _ _ (Err end) answered.0
    c.in_ok-stop.ensures.sent closing called answered.3 in
    let p = err_from_is_err_and c.from_residual-in_err-answer-in-Message.result c.from_residual-in_err-answer-in-Message.ensures.1 in (
      answered.0,
      answered.1,
      answered.2,
      λ rest s.
          let stream = c.in_ok-stop.ensures.stream rest s in
          one_end c.args.page.now (link.sent c.args.link.now) (link.sent c.answer.new.link) (link.coming c.answer.new.link) u
          c.args.at c.args.count rest c.from_residual-in_err-answer-in-Message.result end answered.0 (p.1 ∙ ap Err p.2)
          (sends_more (link.sent c.args.link.now) (link.sent c.answer.new.link)
          (λ text. AnswersSo (is_last c.args.count n.0) (asks c.args.page.now n.0) (Err end) answered.0 text)
          (λ text. Finishes c.args.page.now c.args.at c.args.count rest end answered.0 text)
          (λ text failed. finishes_failed c.args.page.now c.args.at c.args.count rest _ n.0 end answered.0 text n.2
          (after_message n.0 u.bytes n.1 rest stream.0 c.in-Message.total n.3 n.5 stream.2) failed) told),
      one_at_most (link.sent c.args.link.now) (link.sent c.answer.new.link) (is_last c.args.count n.0) (asks c.args.page.now n.0) (Err end) answered.0 told,
    )

pub returns-then-closing-clause-served : goal.returns-then-closing-clause-served
returns-then-closing-clause-served g c =
    let link = g.K.Link in
    let u = c.read_next.new.incoming in
    let P : Next → Type 0 = λ n. NextSo u.ended u.bytes n in
    let n = subst P c.in-Message.is c.in_ok-stop.ensures.next in
    let head = c.in-Message.head in
    let body = c.split_at-in-Message.result.1.now in
    let called = call_is c.args.page.now head n.0 u.bytes body n.1 c.split_at.result.0.now c.in-Message.total n.4 n.3 n.5
    (c.split_at.ensures.front ∙ ap (λ l. take c.in-Message.total l) c.as_slice.ensures) c.split_at-in-Message.ensures.back in
    let closing = last_is head n.0 c.args.count c.closes_after-closing.result n.4 c.closes_after-closing.ensures in
    let answered = c.in_ok-answer-in-Message.ensures.answered in
    let told = told_as (link.sent c.read_next.new.link) (link.sent c.args.link.now) (link.sent c.answer.new.link) _ true _ _ (Ok tt) answered.0
    c.in_ok-stop.ensures.sent c.if-closing.true called answered.3 in (
      answered.0,
      answered.1,
      answered.2,
      λ rest s.
          let stream = c.in_ok-stop.ensures.stream rest s in
          one_end c.args.page.now (link.sent c.args.link.now) (link.sent c.answer.new.link) (link.coming c.answer.new.link) u
          c.args.at c.args.count rest (Err conn.Closed) conn.Closed answered.0 refl
          (sends_more (link.sent c.args.link.now) (link.sent c.answer.new.link)
          (λ text. AnswersSo true (asks c.args.page.now n.0) (Ok tt) answered.0 text)
          (λ text. Finishes c.args.page.now c.args.at c.args.count rest conn.Closed answered.0 text)
          (λ text done. finishes_last c.args.page.now c.args.at c.args.count rest _ n.0 answered.0 text n.2
          (after_message n.0 u.bytes n.1 rest stream.0 c.in-Message.total n.3 n.5 stream.2) (sym closing ∙ c.if-closing.true) done) told),
      one_at_most (link.sent c.args.link.now) (link.sent c.answer.new.link) true (asks c.args.page.now n.0) (Ok tt) answered.0 told,
    )

pub returns-else-closing-clause-served : goal.returns-else-closing-clause-served
returns-else-closing-clause-served g c =
    let link = g.K.Link in
    let u = c.read_next.new.incoming in
    let P : Next → Type 0 = λ n. NextSo u.ended u.bytes n in
    let n = subst P c.in-Message.is c.in_ok-stop.ensures.next in
    let head = c.in-Message.head in
    let body = c.split_at-in-Message.result.1.now in
    let called = call_is c.args.page.now head n.0 u.bytes body n.1 c.split_at.result.0.now c.in-Message.total n.4 n.3 n.5
    (c.split_at.ensures.front ∙ ap (λ l. take c.in-Message.total l) c.as_slice.ensures) c.split_at-in-Message.ensures.back in
    let closing = last_is head n.0 c.args.count c.closes_after-closing.result n.4 c.closes_after-closing.ensures in
    let answered = c.in_ok-answer-in-Message.ensures.answered in
    let told = told_as (link.sent c.read_next.new.link) (link.sent c.args.link.now) (link.sent c.answer.new.link) _ false _ _ (Ok tt) answered.0
    c.in_ok-stop.ensures.sent c.if-closing.false called answered.3 in (
      answered.0,
      answered.1,
      answered.2,
      λ rest s.
          let stream = c.in_ok-stop.ensures.stream rest s in
          one_on c.args.page.now (link.sent c.args.link.now) (link.sent c.answer.new.link) (link.coming c.answer.new.link) c.consume.new.self
          c.args.at c.args.count c.in-Message.total rest (drop c.in-Message.total u.bytes ++ stream.0) answered.0
          (after_use (link.coming c.read_next.new.link) (link.coming c.answer.new.link) u c.consume.new.self rest c.in-Message.total c.answer.ensures.coming c.consume.ensures stream)
          (sends_more (link.sent c.args.link.now) (link.sent c.answer.new.link)
          (λ text. AnswersSo false (asks c.args.page.now n.0) (Ok tt) answered.0 text)
          (λ text. StepSo c.args.page.now c.args.at c.args.count rest (drop c.in-Message.total u.bytes ++ stream.0) (Ok c.in-Message.total) answered.0 text)
          (λ text done. step_on c.args.page.now c.args.at c.args.count c.in-Message.total rest _ n.0 answered.0 text n.2
          (after_message n.0 u.bytes n.1 rest stream.0 c.in-Message.total n.3 n.5 stream.2) (sym closing ∙ c.if-closing.false) done n.5 c.requires) told),
      one_at_most (link.sent c.args.link.now) (link.sent c.answer.new.link) false (asks c.args.page.now n.0) (Ok tt) answered.0 told,
    )
