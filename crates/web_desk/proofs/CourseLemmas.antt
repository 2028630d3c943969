-- A connection followed the reading of its stream.
use Rattle.std.proofs.Common.{◌≡◌, ℕ, ◌<◌, true, false, List, [], ◌∷◌, ◌++◌, length, map, Option, Some, None, IfSome, Result, Ok, Err, refl, ap, sym, ◌∙◌, subst}
use Rattle.std.proofs.lemmas.List.{map-append, length-map}
use Rattle.std.proofs.lemmas.List.Elements.{All-head, All-tail, All-nil, All-cons}
use Rattle.std.specs.List.{flat_map, All}
use Rattle.std.specs.Option.{option_to_list}
use Rattle.desk.specs.declared.request.Request.{Request}
use Rattle.desk.specs.Entries.{Entry}
use Rattle.web_desk.specs.declared.conn_end.ConnEnd.{ConnEnd}
use Rattle.web_desk.specs.declared.conn_end.ConnEnd.TheVariants as conn
use Rattle.web_desk.specs.declared.own_reply.OwnReply.{OwnReply}
use Rattle.web_messages.specs.declared.page.Page.{Page}
use Rattle.web_desk.specs.Answers.{answer_to}
use Rattle.web_desk.specs.Courses.{answer_with, answers_to, asked, entries_behind, last_answer, requests_in, requests_at, requests_of, text_at, FollowsCourse, FollowsFront, FollowsReading}
use Rattle.web_messages.specs.Fields.{closes}
use Rattle.web_desk.specs.Sent.{Sends}
use Rattle.web_desk.specs.Served.{Exchange, IsServed, exchanged, entry_of, asks, log_text, Breaks, FitsCall, Brings, Ended, IsLog, IsRefusedTurn, entries_of, Served}
use Rattle.web_messages.specs.Streams.{Message, message_bytes, IsWhole, most_messages, Ending, over, last, unframed, bad_head, long_head, long_body, cut_body, cut_head, EndsSo, ClosesWell, IsOfWhole}
use Rattle.web_desk.specs.Ends.{EndsWell, end_of}
use Rattle.web_messages.proofs.Readings.{front_of_reading, readings_agree}

-- an entry that fits what a message asks is of that request
asked_fits : (call : Result Request OwnReply) (entry : Option Entry) → FitsCall call entry → requests_of (option_to_list entry) ≡ asked call
asked_fits (Ok request) (Some entry) f = ap (λ r. r ∷ []) f
asked_fits (Ok request) None f = absurd f
asked_fits (Err refused) (Some entry) f = absurd f
asked_fits (Err refused) None f = refl

abbrev messages_of : List Exchange → List Message
messages_of log = map (λ x. x.message) log

log_bytes : (log : List Exchange) → flat_map exchanged log ≡ flat_map message_bytes (messages_of log)
log_bytes [] = refl
log_bytes (x ∷ xs) = ap (λ l. exchanged x ++ l) (log_bytes xs)

log_requests : (page : Page) (log : List Exchange) → All (IsServed page) log → requests_of (entries_of log) ≡ requests_in page (messages_of log)
log_requests page [] p = refl
log_requests page (x ∷ xs) p =
    map-append (λ (e : Entry). e.request) (entry_of x) (entries_of xs)
    ∙ ap (λ l. l ++ requests_of (entries_of xs)) (asked_fits (asks page x.message) x.entry (All-head (IsServed page) x xs p).fits)
    ∙ ap (λ l. asked (asks page x.message) ++ l) (log_requests page xs (All-tail (IsServed page) x xs p))

log_whole : (page : Page) (log : List Exchange) → All (IsServed page) log → All IsWhole (messages_of log)
log_whole page [] p = All-nil IsWhole
log_whole page (x ∷ xs) p =
    All-cons IsWhole x.message (messages_of xs) (All-head (IsServed page) x xs p).whole (log_whole page xs (All-tail (IsServed page) x xs p))

log_on : (page : Page) (log : List Exchange) → All (IsServed page) log → All (λ m. closes m.head ≡ false) (messages_of log)
log_on page [] p = All-nil (λ (m : Message). closes m.head ≡ false)
log_on page (x ∷ xs) p =
    All-cons (λ (m : Message). closes m.head ≡ false) x.message (messages_of xs) (All-head (IsServed page) x xs p).on (log_on page xs (All-tail (IsServed page) x xs p))

ending_requests : (page : Page) (ending : Ending) (entries : List Entry) (text : List ℕ) → Brings page ending entries text → requests_of entries ≡ requests_at page ending
ending_requests page over entries text b = ap requests_of b.0
ending_requests page (last m) entries text b = ap requests_of b.2 ∙ asked_fits (asks page m) b.0 b.1
ending_requests page unframed entries text b = ap requests_of b.0
ending_requests page bad_head entries text b = ap requests_of b.0
ending_requests page long_head entries text b = ap requests_of b.0
ending_requests page (long_body said) entries text b = ap requests_of b.0
ending_requests page (cut_body had said) entries text b = ap requests_of b.0
ending_requests page (cut_head had) entries text b = ap requests_of b.0

-- what was sent to the messages of a log are their answers
call_answered : (call : Result Request OwnReply) (entry : Option Entry) (rest : List Entry) → FitsCall call entry
    → answer_to false call entry ≡ answer_with call (option_to_list entry ++ rest)
call_answered (Ok request) (Some entry) rest f = refl
call_answered (Ok request) None rest f = absurd f
call_answered (Err refused) (Some entry) rest f = absurd f
call_answered (Err refused) None rest f = refl

call_left : (call : Result Request OwnReply) (entry : Option Entry) (rest : List Entry) → FitsCall call entry
    → entries_behind call (option_to_list entry ++ rest) ≡ rest
call_left (Ok request) (Some entry) rest f = refl
call_left (Ok request) None rest f = absurd f
call_left (Err refused) (Some entry) rest f = absurd f
call_left (Err refused) None rest f = refl

log_answers : (page : Page) (log : List Exchange) → All (IsServed page) log → log_text page log ≡ answers_to page (messages_of log) (entries_of log)
log_answers page [] p = refl
log_answers page (x ∷ xs) p =
    let fits = (All-head (IsServed page) x xs p).fits in
    ap (λ l. l ++ log_text page xs) (call_answered (asks page x.message) x.entry (entries_of xs) fits)
    ∙ ap (λ l. answer_with (asks page x.message) (entries_of (x ∷ xs)) ++ l)
    (log_answers page xs (All-tail (IsServed page) x xs p) ∙ ap (answers_to page (messages_of xs)) (sym (call_left (asks page x.message) x.entry (entries_of xs) fits)))

last_answered : (call : Result Request OwnReply) (entry : Option Entry) → FitsCall call entry → answer_to true call entry ≡ last_answer call (option_to_list entry)
last_answered (Ok request) (Some entry) f = refl
last_answered (Ok request) None f = absurd f
last_answered (Err refused) (Some entry) f = absurd f
last_answered (Err refused) None f = refl

ending_answers : (page : Page) (ending : Ending) (entries : List Entry) (text : List ℕ) → Brings page ending entries text → text ≡ text_at page ending entries
ending_answers page over entries text b = b.1
ending_answers page (last m) entries text b = b.3 ∙ last_answered (asks page m) b.0 b.1 ∙ ap (last_answer (asks page m)) (sym b.2)
ending_answers page unframed entries text b = b.1
ending_answers page bad_head entries text b = b.1
ending_answers page long_head entries text b = b.1
ending_answers page (long_body said) entries text b = b.1
ending_answers page (cut_body had said) entries text b = b.1
ending_answers page (cut_head had) entries text b = b.1

ended_follows : (page : Page) (bytes : List ℕ) (log : List Exchange) (rest : List ℕ) (later : List Entry) (more : List ℕ) (end : ConnEnd) (entries : List Entry) (text : List ℕ)
    → IsLog page bytes log rest → entries ≡ entries_of log ++ later → text ≡ log_text page log ++ more → Ended page (length (flat_map exchanged log)) (length log) rest end later more
    → FollowsReading page bytes end entries text
ended_follows page bytes log rest later more end entries text l e t f =
    let same = log_bytes log in
    let count : length log ≡ length (messages_of log) = sym (length-map log (λ x. x.message)) in
    let F : ℕ → Type 0 = λ n. n < most_messages in
    let E : ℕ → Type 0 = λ n. EndsSo n rest f.0 in (
      messages_of log,
      rest,
      f.0,
      entries_of log,
      later,
      record {
        whole = l.whole ∙ ap (λ b. b ++ rest) same;
        each = log_whole page log l.each;
        on = log_on page log l.each;
        few = subst F count l.few;
        ends = subst E count f.1;
      },
      sym f.2 ∙ ap (λ b. end_of (length b) f.0) same,
      e,
      log_requests page log l.each,
      ending_requests page f.0 later more f.3,
      t ∙ ap (λ l. l ++ more) (log_answers page log l.each) ∙ ap (λ m. answers_to page (messages_of log) (entries_of log) ++ m) (ending_answers page f.0 later more f.3),
    )

broken_follows : (page : Page) (P : ℕ → List ℕ → List Entry → List ℕ → Type 0) (bytes : List ℕ) (log : List Exchange) (rest : List ℕ) (later : List Entry) (more : List ℕ) (entries : List Entry) (text : List ℕ)
    → IsLog page bytes log rest → entries ≡ entries_of log ++ later → text ≡ log_text page log ++ more → P (length log) rest later more
    → FollowsFront page P bytes entries text
broken_follows page P bytes log rest later more entries text l e t f =
    let same = log_bytes log in
    let count : length log ≡ length (messages_of log) = sym (length-map log (λ x. x.message)) in
    let F : ℕ → Type 0 = λ n. n < most_messages in
    let Q : ℕ → Type 0 = λ n. P n rest later more in
    let whole : bytes ≡ flat_map message_bytes (messages_of log) ++ rest = l.whole ∙ ap (λ b. b ++ rest) same in (
      messages_of log,
      rest,
      entries_of log,
      later,
      more,
      record {
        whole = whole;
        each = log_whole page log l.each;
        on = log_on page log l.each;
        few = subst F count l.few;
        of_reading = λ before left ending reading. front_of_reading bytes (messages_of log) rest before left ending whole (log_whole page log l.each) (log_on page log l.each) (subst F count l.few) reading;
      },
      e,
      log_requests page log l.each,
      t ∙ ap (λ l. l ++ more) (log_answers page log l.each),
      subst Q count f,
    )

pub served_follows : (page : Page) (bytes : List ℕ) (end : ConnEnd) (entries : List Entry) (text : List ℕ) → Served page bytes end entries text → FollowsCourse page bytes end entries text
served_follows page bytes (conn.LinkFault way) entries text s = broken_follows page (Breaks page) bytes s.0 s.1 s.2 s.3 entries text s.4 s.5 s.6 s.7
served_follows page bytes conn.Memory entries text s = broken_follows page (Breaks page) bytes s.0 s.1 s.2 s.3 entries text s.4 s.5 s.6 s.7
served_follows page bytes conn.Spent entries text s = broken_follows page (λ count rest later more. IsRefusedTurn page rest later more) bytes s.0 s.1 s.2 s.3 entries text s.4 s.5 s.6 s.7
served_follows page bytes conn.Closed entries text s = ended_follows page bytes s.0 s.1 s.2 s.3 conn.Closed entries text s.4 s.5 s.6 s.7
served_follows page bytes (conn.BadHead at) entries text s = ended_follows page bytes s.0 s.1 s.2 s.3 (conn.BadHead at) entries text s.4 s.5 s.6 s.7
served_follows page bytes conn.HeadTooLong entries text s = ended_follows page bytes s.0 s.1 s.2 s.3 conn.HeadTooLong entries text s.4 s.5 s.6 s.7
served_follows page bytes (conn.BodyTooLong said) entries text s = ended_follows page bytes s.0 s.1 s.2 s.3 (conn.BodyTooLong said) entries text s.4 s.5 s.6 s.7
served_follows page bytes (conn.CutOff had said) entries text s = ended_follows page bytes s.0 s.1 s.2 s.3 (conn.CutOff had said) entries text s.4 s.5 s.6 s.7
served_follows page bytes (conn.HeadCut had) entries text s = ended_follows page bytes s.0 s.1 s.2 s.3 (conn.HeadCut had) entries text s.4 s.5 s.6 s.7

-- a stream of whole messages is closed at its end
closes_well : (at : ℕ) (ending : Ending) → ClosesWell ending → end_of at ending ≡ conn.Closed
closes_well at over w = refl
closes_well at (last m) w = refl
closes_well at unframed w = absurd w
closes_well at bad_head w = absurd w
closes_well at long_head w = absurd w
closes_well at (long_body said) w = absurd w
closes_well at (cut_body had said) w = absurd w
closes_well at (cut_head had) w = absurd w

follows_well : (page : Page) (bytes : List ℕ) (end : ConnEnd) (entries : List Entry) (text : List ℕ) → FollowsReading page bytes end entries text → IsOfWhole bytes → end ≡ conn.Closed
follows_well page bytes end entries text f w =
    let same = readings_agree bytes f.0 w.0 f.1 w.1 f.2 w.2 f.5 w.3 in
    let at = length (flat_map message_bytes f.0) in
    f.6 ∙ ap (end_of at) same.1.1 ∙ closes_well at w.2 w.4

pub ends_well : (page : Page) (bytes : List ℕ) (end : ConnEnd) (entries : List Entry) (text : List ℕ) → Served page bytes end entries text → IsOfWhole bytes → EndsWell end
ends_well page bytes (conn.LinkFault way) entries text s w = tt
ends_well page bytes conn.Memory entries text s w = tt
ends_well page bytes conn.Spent entries text s w = tt
ends_well page bytes conn.Closed entries text s w = tt
ends_well page bytes (conn.BadHead at) entries text s w =
    let e : conn.BadHead at ≡ conn.Closed = follows_well page bytes (conn.BadHead at) entries text (served_follows page bytes (conn.BadHead at) entries text s) w in cc
ends_well page bytes conn.HeadTooLong entries text s w =
    let e : conn.HeadTooLong ≡ conn.Closed = follows_well page bytes conn.HeadTooLong entries text (served_follows page bytes conn.HeadTooLong entries text s) w in cc
ends_well page bytes (conn.BodyTooLong said) entries text s w =
    let e : conn.BodyTooLong said ≡ conn.Closed = follows_well page bytes (conn.BodyTooLong said) entries text (served_follows page bytes (conn.BodyTooLong said) entries text s) w in cc
ends_well page bytes (conn.CutOff had said) entries text s w =
    let e : conn.CutOff had said ≡ conn.Closed = follows_well page bytes (conn.CutOff had said) entries text (served_follows page bytes (conn.CutOff had said) entries text s) w in cc
ends_well page bytes (conn.HeadCut had) entries text s w =
    let e : conn.HeadCut had ≡ conn.Closed = follows_well page bytes (conn.HeadCut had) entries text (served_follows page bytes (conn.HeadCut had) entries text s) w in cc

-- where the link tells what comes
pub told_well : (page : Page) (coming sent sent_now : Option (List ℕ)) (end : ConnEnd) (entries : List Entry)
    → IfSome coming (λ bytes. Sends sent sent_now (λ text. Served page bytes end entries text)) → IfSome coming (λ bytes. IsOfWhole bytes → EndsWell end)
told_well page None sent sent_now end entries h = tt
told_well page (Some bytes) sent sent_now end entries h = λ w. ends_well page bytes end entries h.0 h.2 w

-- memory ran out before anything was read
pub nothing_well : (coming : Option (List ℕ)) → IfSome coming (λ bytes. IsOfWhole bytes → EndsWell conn.Memory)
nothing_well None = tt
nothing_well (Some bytes) = λ w. tt
