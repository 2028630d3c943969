-- What one message, or one end, brings.
use Rattle.std.specs.Prelude.{◌≡◌, ◌⊎◌, ℕ, ◌+◌, ◌<◌, Bool, false, List, [], ◌++◌, length, Option, Some, None, OnOk, Result, Ok, Err, option_to_list}
use Rattle.desk.specs.declared.request.Request.{Request}
use Rattle.web_desk.specs.declared.conn_end.ConnEnd.{ConnEnd}
use Rattle.web_desk.specs.declared.conn_end.ConnEnd.TheVariants as conn
use Rattle.web_desk.specs.declared.own_reply.OwnReply.{OwnReply}
use Rattle.web_messages.specs.declared.page.Page.{Page}
use Rattle.web_messages.specs.declared.receive.Stop.{Stop}
use Rattle.web_messages.specs.declared.receive.Stop.TheVariants as stop
use Rattle.web_messages.specs.declared.refusal.Refusal.{Refusal}
use Rattle.web_messages.specs.declared.refusal.Refusal.TheVariants as refusal
use Rattle.web_desk.specs.Answers.{answer_to}
use Rattle.desk.specs.Entries.{Entry}
use Rattle.web_messages.specs.Receipt.{IsStream, ending_of}
use Rattle.web_desk.specs.Sent.{Sends}
use Rattle.web_desk.specs.Served.{FitsCall, IsFrontOf, Finishes, Exchange, IsServed, exchanged, entry_of, answer_of, ending_text}
use Rattle.web_messages.specs.Streams.{most_messages}
use Rattle.web_desk.specs.Ends.{IsBroken, end_of}
use Rattle.web_messages.specs.Unread.{Unread}

-- the refusal that is sent where the reading stopped, if there is one
abbrev pub refusal_at : Stop → Option Refusal
refusal_at stop.Over = None
refusal_at stop.Unframed = Some refusal.Message
refusal_at stop.BadHead = Some refusal.Message
refusal_at stop.LongHead = Some refusal.Head
refusal_at (stop.LongBody said) = Some refusal.Body
refusal_at (stop.CutBody had said) = None
refusal_at (stop.CutHead had) = None

-- all of a reply was sent, or a front of it
abbrev pub SentSo : Result (Unit {0}) ConnEnd → List ℕ → List ℕ → Type 0
SentSo (Ok done) whole text = text ≡ whole
SentSo (Err end) whole text = IsFrontOf text whole

-- the end where the reading stopped, with its reply; or a fault while that was sent
abbrev pub ClosesSo : ℕ → Stop → ConnEnd → List ℕ → Type 0
ClosesSo at s end text =
    ((end ≡ end_of at (ending_of s)) × (text ≡ ending_text (ending_of s)))
    ⊎ (IsBroken end × IsFrontOf text (ending_text (ending_of s)))

-- a fault before the message had an entry, or while its answer was sent
abbrev pub BreaksIn : Bool → Result Request OwnReply → List Entry → List ℕ → Type 0
BreaksIn closing call entries text =
    ((entries ≡ []) × (text ≡ []))
    ⊎ ((entry : Option Entry) × FitsCall call entry × (entries ≡ option_to_list entry) × IsFrontOf text (answer_to closing call entry))

-- why a message wasn't answered
abbrev pub FailsSo : Bool → Result Request OwnReply → ConnEnd → List Entry → List ℕ → Type 0
FailsSo closing call (conn.LinkFault way) entries text = BreaksIn closing call entries text
FailsSo closing call conn.Memory entries text = BreaksIn closing call entries text
FailsSo closing call conn.Spent entries text = (request : Request) × (call ≡ Ok request) × (entries ≡ []) × (text ≡ [])
FailsSo closing call other entries text = ⊥

-- a message was answered, with its entry if it asked, or why not
abbrev pub AnswersSo : Bool → Result Request OwnReply → Result (Unit {0}) ConnEnd → List Entry → List ℕ → Type 0
AnswersSo closing call (Ok done) entries text =
    (entry : Option Entry) × FitsCall call entry × (entries ≡ option_to_list entry) × (text ≡ answer_to closing call entry)
AnswersSo closing call (Err end) entries text = FailsSo closing call end entries text

-- the ends of a message that wasn't answered
abbrev pub IsFailure : ConnEnd → Type 0
IsFailure (conn.LinkFault way) = Unit {0}
IsFailure conn.Memory = Unit {0}
IsFailure conn.Spent = Unit {0}
IsFailure other = ⊥

-- One more message was answered, and the stream goes on from these bytes; or the connection ends.
abbrev pub StepSo : Page → ℕ → ℕ → List ℕ → List ℕ → Result ℕ ConnEnd → List Entry → List ℕ → Type 0
StepSo page at count rest rest_now (Ok size) entries text =
    (x : Exchange) × IsServed page x × (rest ≡ exchanged x ++ rest_now) × (size ≡ length (exchanged x))
    × (entries ≡ entry_of x) × (text ≡ answer_of page false x) × (count + 1 < most_messages)
StepSo page at count rest rest_now (Err end) entries text = Finishes page at count rest end entries text

-- The same, with what was sent, and with the rest of the stream as it is to come then.
abbrev pub Turned : Page → Option (List ℕ) → Option (List ℕ) → Option (List ℕ) → Unread → ℕ → ℕ → List ℕ → Result ℕ ConnEnd → List Entry → Type 0
Turned page sent sent_now coming_now u_now at count rest result entries =
    (rest_now : List ℕ) × OnOk result (IsStream coming_now u_now rest_now)
    × Sends sent sent_now (λ text. StepSo page at count rest rest_now result entries text)
