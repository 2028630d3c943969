-- One message after another, and then the end.
use Rattle.std.proofs.Common.{◌≡◌, ℕ, ◌+◌, ◌<◌, Bool, true, false, List, [], ◌∷◌, ◌++◌, length, take, drop, Option, Some, None, IfSome, Result, Ok, Err, refl, ap, sym, ◌∙◌, subst, inl, inr, arith, append_assoc, length-append, append-nil, lit<, ◌||◌, ◌==◌}
use Rattle.std.proofs.Math.Seq.{take-append_seam, drop-append_seam}
use Rattle.std.proofs.lemmas.Bool.Decides.{nat_tests}
use Rattle.std.proofs.lemmas.Grind.{flat_map-append}
use Rattle.std.proofs.lemmas.List.Elements.{All-push, All-append, All-nil}
use Rattle.std.specs.List.{flat_map}
use Rattle.httparse.specs.Grammar.{print_request}
use Rattle.desk.specs.declared.request.Request.{Request}
use Rattle.web_desk.specs.declared.conn_end.ConnEnd.{ConnEnd}
use Rattle.web_desk.specs.declared.conn_end.ConnEnd.TheVariants as conn
use Rattle.web_desk.specs.declared.own_reply.OwnReply.{OwnReply}
use Rattle.web_messages.specs.declared.page.Page.{Page}
use Rattle.web_messages.specs.declared.head.Head.{Head}
use Rattle.web_messages.specs.declared.receive.Stop.{Stop}
use Rattle.web_messages.specs.declared.receive.Stop.TheVariants as stop
use Rattle.web_messages.specs.declared.refusal.Refusal.{Refusal}
use Rattle.web_messages.specs.declared.refusal.Refusal.TheVariants as refusal
use Rattle.web_desk.specs.Answers.{refusal_message}
use Rattle.web_desk.specs.Calls.{call_at}
use Rattle.desk.specs.Entries.{Entry}
use Rattle.web_messages.specs.Fields.{closes}
use Rattle.web_messages.specs.Heads.{facts_of}
use Rattle.web_messages.specs.Receipt.{IsStream, Whatever, ending_of}
use Rattle.web_desk.specs.Served.{Exchange, IsServed, exchanged, entry_of, answer_of, asks, Finishes, Served, IsLog, entries_of, log_text, AreOf, IsFrontOf, ending_text}
use Rattle.web_messages.specs.Streams.{Message, message_bytes, IsWhole, is_last, most_messages, last, EndsSo}
use Rattle.web_desk.specs.Ends.{IsBroken, end_of}
use Rattle.web_desk.specs.Sent.{Sends}
use Rattle.web_desk.specs.Turns.{ClosesSo, FailsSo, AnswersSo, StepSo, Turned, refusal_at}
use Rattle.web_messages.specs.Unread.{Unread}
use Rattle.web_desk.proofs.AnswerLemmas.{day_of}

-- only a last message depends on how many came before
pub ends_at : (count : ℕ) (rest : List ℕ) (s : Stop) → EndsSo 0 rest (ending_of s) → EndsSo count rest (ending_of s)
ends_at count rest stop.Over p = p
ends_at count rest stop.Unframed p = p
ends_at count rest stop.BadHead p = p
ends_at count rest stop.LongHead p = p
ends_at count rest (stop.LongBody said) p = p
ends_at count rest (stop.CutBody had said) p = p
ends_at count rest (stop.CutHead had) p = p

-- the rest of the stream ends where the reading stopped
pub stops : (count : ℕ) (coming : Option (List ℕ)) (u : Unread) (rest : List ℕ) (s : Stop) → IsStream coming u rest
    → Whatever u.ended u.bytes (λ r. EndsSo 0 r (ending_of s)) → EndsSo count rest (ending_of s)
stops count coming u rest s stream p =
    let P : List ℕ → Type 0 = λ r. EndsSo count r (ending_of s) in
    subst P (sym stream.2) (ends_at count (u.bytes ++ stream.0) s (p stream.0 stream.3))

-- the end comes with its reply
pub ends_whole : (page : Page) (at count : ℕ) (rest : List ℕ) (s : Stop) (text : List ℕ) → EndsSo count rest (ending_of s) → text ≡ ending_text (ending_of s)
    → Finishes page at count rest (end_of at (ending_of s)) [] text
ends_whole page at count rest stop.Over text p e = (ending_of stop.Over, p, refl, (refl, e))
ends_whole page at count rest stop.Unframed text p e = (ending_of stop.Unframed, p, refl, (refl, e))
ends_whole page at count rest stop.BadHead text p e = (ending_of stop.BadHead, p, refl, (refl, e))
ends_whole page at count rest stop.LongHead text p e = (ending_of stop.LongHead, p, refl, (refl, e))
ends_whole page at count rest (stop.LongBody said) text p e = (ending_of (stop.LongBody said), p, refl, (refl, e))
ends_whole page at count rest (stop.CutBody had said) text p e = (ending_of (stop.CutBody had said), p, refl, (refl, e))
ends_whole page at count rest (stop.CutHead had) text p e = (ending_of (stop.CutHead had), p, refl, (refl, e))

-- a fault came while the reply before the end was sent
pub ends_broken : (page : Page) (at count : ℕ) (rest : List ℕ) (s : Stop) (end : ConnEnd) (text : List ℕ) → EndsSo count rest (ending_of s) → IsBroken end
    → IsFrontOf text (ending_text (ending_of s)) → Finishes page at count rest end [] text
ends_broken page at count rest s (conn.LinkFault way) text p b f = inr (inr (ending_of s, p, refl, f))
ends_broken page at count rest s conn.Memory text p b f = inr (inr (ending_of s, p, refl, f))
ends_broken page at count rest s conn.Closed text p b f = absurd b
ends_broken page at count rest s (conn.BadHead place) text p b f = absurd b
ends_broken page at count rest s conn.HeadTooLong text p b f = absurd b
ends_broken page at count rest s (conn.BodyTooLong said) text p b f = absurd b
ends_broken page at count rest s (conn.CutOff had said) text p b f = absurd b
ends_broken page at count rest s conn.Spent text p b f = absurd b
ends_broken page at count rest s (conn.HeadCut had) text p b f = absurd b

pub finishes_stop : (page : Page) (at count : ℕ) (rest : List ℕ) (s : Stop) (end : ConnEnd) (text : List ℕ) → EndsSo count rest (ending_of s)
    → ClosesSo at s end text → Finishes page at count rest end [] text
finishes_stop page at count rest s end text p c =
    let P : ConnEnd → Type 0 = λ e. Finishes page at count rest e [] text in
    elim c [
      | inl whole ↦ subst P (sym whole.0) (ends_whole page at count rest s text p whole.1)
      | inr broken ↦ ends_broken page at count rest s end text p broken.0 broken.1
    ]

-- a fault before the next message was read
pub finishes_unread : (page : Page) (at count : ℕ) (rest : List ℕ) (end : ConnEnd) → IsBroken end → Finishes page at count rest end [] []
finishes_unread page at count rest (conn.LinkFault way) b = inl (refl, refl)
finishes_unread page at count rest conn.Memory b = inl (refl, refl)
finishes_unread page at count rest conn.Closed b = absurd b
finishes_unread page at count rest (conn.BadHead place) b = absurd b
finishes_unread page at count rest conn.HeadTooLong b = absurd b
finishes_unread page at count rest (conn.BodyTooLong said) b = absurd b
finishes_unread page at count rest (conn.CutOff had said) b = absurd b
finishes_unread page at count rest conn.Spent b = absurd b
finishes_unread page at count rest (conn.HeadCut had) b = absurd b

-- a message that wasn't answered
pub finishes_failed : (page : Page) (at count : ℕ) (rest more : List ℕ) (m : Message) (end : ConnEnd) (entries : List Entry) (text : List ℕ)
    → IsWhole m → rest ≡ message_bytes m ++ more → FailsSo (is_last count m) (asks page m) end entries text
    → Finishes page at count rest end entries text
finishes_failed page at count rest more m (conn.LinkFault way) entries text w e f =
    elim f [ inl none ↦ inl none | inr some ↦ inr (inl (m, more, some.0, w, e, some.1, some.2, some.3)) ]
finishes_failed page at count rest more m conn.Memory entries text w e f =
    elim f [ inl none ↦ inl none | inr some ↦ inr (inl (m, more, some.0, w, e, some.1, some.2, some.3)) ]
finishes_failed page at count rest more m conn.Spent entries text w e f = (m, more, f.0, w, e, f.1, f.2, f.3)
finishes_failed page at count rest more m conn.Closed entries text w e f = absurd f
finishes_failed page at count rest more m (conn.BadHead place) entries text w e f = absurd f
finishes_failed page at count rest more m conn.HeadTooLong entries text w e f = absurd f
finishes_failed page at count rest more m (conn.BodyTooLong said) entries text w e f = absurd f
finishes_failed page at count rest more m (conn.CutOff had said) entries text w e f = absurd f
finishes_failed page at count rest more m (conn.HeadCut had) entries text w e f = absurd f

-- a last message was answered
pub finishes_last : (page : Page) (at count : ℕ) (rest more : List ℕ) (m : Message) (entries : List Entry) (text : List ℕ)
    → IsWhole m → rest ≡ message_bytes m ++ more → is_last count m ≡ true → AnswersSo true (asks page m) (Ok tt) entries text
    → Finishes page at count rest conn.Closed entries text
finishes_last page at count rest more m entries text w e l a = (last m, (more, e, w, l), refl, (a.0, a.1, a.2, a.3))

-- what isn't the last goes on
pub not_last : (a b : Bool) → (a || b) ≡ false → (a ≡ false) × (b ≡ false)
not_last true b e = absurd (cc (e))
not_last false b e = (refl, e)

-- a number that is below a bound, and isn't the last below it
pub below_of : (count : ℕ) → (count + 1 == most_messages) ≡ false → count < most_messages → count + 1 < most_messages
below_of count e l = grind (arith, nat_tests)

-- a message was answered, and others may follow
pub step_on : (page : Page) (at count size : ℕ) (rest more : List ℕ) (m : Message) (entries : List Entry) (text : List ℕ)
    → IsWhole m → rest ≡ message_bytes m ++ more → is_last count m ≡ false → AnswersSo false (asks page m) (Ok tt) entries text
    → size ≡ length (message_bytes m) → count < most_messages → StepSo page at count rest more (Ok size) entries text
step_on page at count size rest more m entries text w e l a s few =
    let p = not_last (closes m.head) (count + 1 == most_messages) l in (
      record { message = m; entry = a.0 },
      record { whole = w; on = p.0; fits = a.1 },
      e,
      s,
      a.2,
      a.3,
      below_of count p.1 few,
    )

-- The parts of a message in the bytes that came.

pub call_is : (page : Page) (head : Head) (m : Message) (u body more message : List ℕ) (total : ℕ) → head ≡ facts_of m.head → u ≡ message_bytes m ++ more
    → total ≡ length (message_bytes m) → message ≡ take total u → body ≡ drop head.length message
    → call_at page head.route head.query body ≡ asks page m
call_is page head m u body more message total f e t h b =
    let whole : message ≡ message_bytes m = h ∙ ap (λ n. take n u) t ∙ ap (λ l. take (length (message_bytes m)) l) e ∙ take-append_seam (message_bytes m) more in
    let length_is : head.length ≡ length (print_request m.head) = ap (λ x. x.length) f in
    let body_is : body ≡ m.body =
    b ∙ ap (λ l. drop head.length l) whole ∙ ap (λ n. drop n (message_bytes m)) length_is ∙ drop-append_seam (print_request m.head) m.body in
    ap (λ x. call_at page x.route x.query body) f ∙ ap (λ l. call_at page (facts_of m.head).route (facts_of m.head).query l) body_is

-- the rest of the stream after a message at its front
pub after_message : (m : Message) (u more rest left : List ℕ) (total : ℕ) → u ≡ message_bytes m ++ more → total ≡ length (message_bytes m)
    → rest ≡ u ++ left → rest ≡ message_bytes m ++ (drop total u ++ left)
after_message m u more rest left total e t r =
    let d : drop total u ≡ more = ap (λ n. drop n u) t ∙ ap (λ l. drop (length (message_bytes m)) l) e ∙ drop-append_seam (message_bytes m) more in
    r ∙ ap (λ l. l ++ left) e ∙ append_assoc (message_bytes m) more left ∙ ap (λ l. message_bytes m ++ (l ++ left)) (sym d)

pub one_end : (page : Page) (sent sent_now coming_now : Option (List ℕ)) (u_now : Unread) (at count : ℕ) (rest : List ℕ) (result : Result ℕ ConnEnd) (end : ConnEnd) (entries : List Entry)
    → result ≡ Err end → Sends sent sent_now (λ text. Finishes page at count rest end entries text)
    → Turned page sent sent_now coming_now u_now at count rest result entries
one_end page sent sent_now coming_now u_now at count rest result end entries e p =
    let P : Result ℕ ConnEnd → Type 0 = λ r. Turned page sent sent_now coming_now u_now at count rest r entries in
    subst P (sym e) ([], tt, p)

pub one_on : (page : Page) (sent sent_now coming_now : Option (List ℕ)) (u_now : Unread) (at count size : ℕ) (rest rest_now : List ℕ) (entries : List Entry)
    → IsStream coming_now u_now rest_now → Sends sent sent_now (λ text. StepSo page at count rest rest_now (Ok size) entries text)
    → Turned page sent sent_now coming_now u_now at count rest (Ok size) entries
one_on page sent sent_now coming_now u_now at count size rest rest_now entries s p = (rest_now, s, p)

-- the same answer, of equal parts
pub told_as : (sent_old sent sent_now : Option (List ℕ)) (closing closing_now : Bool) (call call_now : Result Request OwnReply)
    (r : Result (Unit {0}) ConnEnd) (entries : List Entry) → sent_old ≡ sent → closing ≡ closing_now → call ≡ call_now
    → Sends sent_old sent_now (λ text. AnswersSo closing call r entries text)
    → Sends sent sent_now (λ text. AnswersSo closing_now call_now r entries text)
told_as sent_old sent sent_now closing closing_now call call_now r entries a b c p =
    let F : Option (List ℕ) → Type 0 = λ s. Sends s sent_now (λ text. AnswersSo closing call r entries text) in
    let G : Bool → Type 0 = λ x. Sends sent sent_now (λ text. AnswersSo x call r entries text) in
    let H : Result Request OwnReply → Type 0 = λ x. Sends sent sent_now (λ text. AnswersSo closing_now x r entries text) in
    subst H c (subst G b (subst F a p))

-- whether a message is the last, by what is kept of its head
pub last_is : (head : Head) (m : Message) (count : ℕ) (closing : Bool) → head ≡ facts_of m.head
    → closing ≡ (head.closing || count + 1 == most_messages) → closing ≡ is_last count m
last_is head m count closing f e = e ∙ ap (λ (h : Head). h.closing || count + 1 == most_messages) f

-- the rest of the stream once a message was used
pub after_use : (coming coming_now : Option (List ℕ)) (u u_now : Unread) (rest : List ℕ) (total : ℕ) → coming_now ≡ coming
    → u_now ≡ record u { bytes = drop total u.bytes } → (stream : IsStream coming u rest) → IsStream coming_now u_now (drop total u.bytes ++ stream.0)
after_use coming coming_now u u_now rest total a e stream =
    let P : Unread → Type 0 = λ v. IsStream coming_now v (drop total u.bytes ++ stream.0) in
    subst P (sym e) (stream.0, a ∙ stream.1, refl, stream.3)

-- the messages so far, their entries, and what was sent
abbrev pub Ran : Page → Option (List ℕ) → Option (List ℕ) → Option (List ℕ) → Option (List ℕ) → Unread → ℕ → ℕ → List Entry → Type 0
Ran page coming sent coming_now sent_now u at count entries =
    IfSome coming (λ bytes. (log : List Exchange) × (rest : List ℕ) × IsStream coming_now u rest × IsLog page bytes log rest
    × (entries ≡ entries_of log) × IfSome sent (λ before. sent_now ≡ Some (before ++ log_text page log)) × (at ≡ length (flat_map exchanged log)) × (count ≡ length log))

-- nothing was sent yet
none_sent : (sent : Option (List ℕ)) → IfSome sent (λ before. sent ≡ Some (before ++ []))
none_sent None = tt
none_sent (Some before) = ap Some (sym (append-nil before))

-- some bytes were sent, and others after them
sent_on : (sent sent_now sent_next : Option (List ℕ)) (first more : List ℕ) → IfSome sent (λ before. sent_now ≡ Some (before ++ first))
    → IfSome sent_now (λ before. sent_next ≡ Some (before ++ more)) → IfSome sent (λ before. sent_next ≡ Some (before ++ (first ++ more)))
sent_on None sent_now sent_next first more p q = tt
sent_on (Some before) sent_now sent_next first more p q =
    let Q : Option (List ℕ) → Type 0 = λ o. IfSome o (λ b. sent_next ≡ Some (b ++ more)) in
    subst Q p q ∙ ap Some (append_assoc before first more)

pub ran_start : (page : Page) (coming sent : Option (List ℕ)) → Ran page coming sent coming sent (record { bytes = []; ended = false }) 0 0 []
ran_start page None sent = tt
ran_start page (Some bytes) sent = (
  [],
  bytes,
  (bytes, refl, refl, λ f. absurd (cc (f))),
  record { whole = refl; each = All-nil (IsServed page); few = lit< tt },
  refl,
  none_sent sent,
  refl,
  refl,
)

pub ran_more : (page : Page) (coming sent coming_now sent_now coming_next sent_next : Option (List ℕ)) (u u_next : Unread) (at count size : ℕ) (entries later : List Entry)
    → Ran page coming sent coming_now sent_now u at count entries
    → ((rest : List ℕ) → IsStream coming_now u rest → Turned page sent_now sent_next coming_next u_next at count rest (Ok size) later)
    → Ran page coming sent coming_next sent_next u_next (at + size) (count + 1) (entries ++ later)
ran_more page None sent coming_now sent_now coming_next sent_next u u_next at count size entries later p f = tt
ran_more page (Some bytes) sent coming_now sent_now coming_next sent_next u u_next at count size entries later p f =
    let log = p.0 in
    let turned = f p.1 p.2 in
    let more = turned.2 in
    let step = more.2 in
    let x = step.0 in
    let longer : length (log ++ x ∷ []) ≡ length log + 1 = length-append log (x ∷ []) ∙ (let k : length log + length (x ∷ []) ≡ length log + 1 = omega arith in k) in
    let bytes_of : flat_map exchanged (log ++ x ∷ []) ≡ flat_map exchanged log ++ exchanged x = flat_map-append exchanged log (x ∷ []) ∙ ap (λ t. flat_map exchanged log ++ t) (append-nil (exchanged x)) in
    let all_entries : entries_of (log ++ x ∷ []) ≡ entries_of log ++ entry_of x = flat_map-append entry_of log (x ∷ []) ∙ ap (λ t. entries_of log ++ t) (append-nil (entry_of x)) in
    let all_text : log_text page (log ++ x ∷ []) ≡ log_text page log ++ answer_of page false x = flat_map-append (answer_of page false) log (x ∷ []) ∙ ap (λ t. log_text page log ++ t) (append-nil (answer_of page false x)) in (
      log ++ x ∷ [],
      turned.0,
      turned.1,
      record {
        whole =
            p.3.whole ∙ ap (λ t. flat_map exchanged log ++ t) step.2 ∙ sym (append_assoc (flat_map exchanged log) (exchanged x) turned.0)
            ∙ ap (λ t. t ++ turned.0) (sym bytes_of);
        each = All-push (IsServed page) log x p.3.each step.1;
        few = omega (arith, longer, step.6, p.7);
      },
      ap (λ t. t ++ later) p.4 ∙ ap (λ t. entries_of log ++ t) step.4 ∙ sym all_entries,
      (let S : List ℕ → Type 0 = λ t. IfSome sent (λ before. sent_next ≡ Some (before ++ t)) in
          subst S (ap (λ t. log_text page log ++ t) step.5 ∙ sym all_text) (sent_on sent sent_now sent_next (log_text page log) more.0 p.5 more.1)),
      omega (arith, p.6, step.3, ap length bytes_of, length-append (flat_map exchanged log) (exchanged x)),
      omega (arith, longer, p.7),
    )

pub served_end : (page : Page) (coming sent coming_now sent_now coming_next sent_next : Option (List ℕ)) (u u_next : Unread) (at count : ℕ) (end : ConnEnd) (entries later : List Entry)
    → Ran page coming sent coming_now sent_now u at count entries
    → ((rest : List ℕ) → IsStream coming_now u rest → Turned page sent_now sent_next coming_next u_next at count rest (Err end) later)
    → IfSome coming (λ bytes. Sends sent sent_next (λ text. Served page bytes end (entries ++ later) text))
served_end page None sent coming_now sent_now coming_next sent_next u u_next at count end entries later p f = tt
served_end page (Some bytes) sent coming_now sent_now coming_next sent_next u u_next at count end entries later p f =
    let log = p.0 in
    let more = (f p.1 p.2).2 in
    let A : ℕ → Type 0 = λ n. Finishes page n count p.1 end later more.0 in
    let C : ℕ → Type 0 = λ n. Finishes page (length (flat_map exchanged log)) n p.1 end later more.0 in (
      log_text page log ++ more.0,
      sent_on sent sent_now sent_next (log_text page log) more.0 p.5 more.1,
      (log, p.1, later, more.0, p.3, ap (λ t. t ++ later) p.4, refl, subst C p.7 (subst A p.6 more.2)),
    )

-- entries of one day, and more of it
pub days_more : (day : Option ℕ) (entries later : List Entry) → IfSome day (λ d. AreOf d entries) → IfSome day (λ d. AreOf d later)
    → IfSome day (λ d. AreOf d (entries ++ later))
days_more None entries later p q = tt
days_more (Some d) entries later p q = All-append (λ (x : Entry). x.day ≡ day_of d) entries later p q

-- memory ran out before anything was read
pub served_nothing : (page : Page) (coming sent : Option (List ℕ))
    → IfSome coming (λ bytes. Sends sent sent (λ text. Served page bytes conn.Memory [] text))
served_nothing page None sent = tt
served_nothing page (Some bytes) sent =
    ([], none_sent sent, ([], bytes, [], [], record { whole = refl; each = All-nil (IsServed page); few = lit< tt }, refl, refl, inl (refl, refl)))

-- where the link tells both what came and what was sent, its bytes are those
pub told_both : (coming sent sent_now : Option (List ℕ)) (P : List ℕ → List ℕ → Type 0) → IfSome coming (λ bytes. Sends sent sent_now (λ text. P bytes text))
    → IfSome coming (λ bytes. IfSome sent (λ before. (text : List ℕ) × (sent_now ≡ Some (before ++ text)) × P bytes text))
told_both None sent sent_now P h = tt
told_both (Some bytes) None sent_now P h = tt
told_both (Some bytes) (Some before) sent_now P h = (h.0, h.1, h.2)

-- where the reading stopped and nothing is replied, nothing belongs to the end
pub stop_silent : (s : Stop) → None ≡ refusal_at s → ending_text (ending_of s) ≡ []
stop_silent stop.Over h = refl
stop_silent stop.Unframed h = absurd (cc h)
stop_silent stop.BadHead h = absurd (cc h)
stop_silent stop.LongHead h = absurd (cc h)
stop_silent (stop.LongBody said) h = absurd (cc h)
stop_silent (stop.CutBody had said) h = refl
stop_silent (stop.CutHead had) h = refl

said_by : (r given : Refusal) → Some r ≡ Some given → refusal_message true given ≡ refusal_message true r
said_by r given h =
    let e : r ≡ given = cc in
    ap (refusal_message true) (sym e)

-- else that refusal does
pub stop_says : (s : Stop) (r : Refusal) → Some r ≡ refusal_at s → ending_text (ending_of s) ≡ refusal_message true r
stop_says stop.Over r h = absurd (cc h)
stop_says stop.Unframed r h = said_by r refusal.Message h
stop_says stop.BadHead r h = said_by r refusal.Message h
stop_says stop.LongHead r h = said_by r refusal.Head h
stop_says (stop.LongBody said) r h = said_by r refusal.Body h
stop_says (stop.CutBody had said) r h = absurd (cc h)
stop_says (stop.CutHead had) r h = absurd (cc h)
