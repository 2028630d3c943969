-- What a connection did: which entries the messages of its stream led to, and which bytes were sent.
use Rattle.std.specs.Prelude.{◌≡◌, ℕ, ◌<◌, ◌⊎◌, Bool, true, false, List, [], ◌++◌, length, Option, Some, None, Result, Ok, Err, All, option_to_list}
use Rattle.std.specs.List.{flat_map}
use Rattle.desk.specs.declared.request.Request.{Request}
use Rattle.web_desk.specs.declared.conn_end.ConnEnd.{ConnEnd}
use Rattle.web_desk.specs.declared.conn_end.ConnEnd.TheVariants as conn
use Rattle.web_desk.specs.declared.own_reply.OwnReply.{OwnReply}
use Rattle.web_messages.specs.declared.page.Page.{Page}
use Rattle.web_messages.specs.declared.refusal.Refusal.TheVariants as refusal
use Rattle.web_desk.specs.Answers.{answer_to, refusal_message}
use Rattle.web_desk.specs.Calls.{call_of}
use Rattle.desk.specs.Entries.{Entry}
use Rattle.web_messages.specs.Fields.{closes}
use Rattle.web_messages.specs.Streams.{Message, message_bytes, IsWhole, is_last, most_messages, Ending, over, last, unframed, bad_head, long_head, long_body, cut_body, cut_head, EndsSo}
use Rattle.web_desk.specs.Ends.{end_of}

-- a message with its entry, where it asked the desk
pub record Exchange : Type 0 where
  pub message : Message
  pub entry : Option Entry

abbrev pub asks : Page → Message → Result Request OwnReply
asks page m = call_of page m.head m.body

-- a message that asks the desk has one entry, of this request, and another has none
abbrev pub FitsCall : Result Request OwnReply → Option Entry → Type 0
FitsCall (Ok request) (Some entry) = entry.request ≡ request
FitsCall (Ok request) None = ⊥
FitsCall (Err own_reply) (Some entry) = ⊥
FitsCall (Err own_reply) None = Unit {0}

abbrev pub exchanged : Exchange → List ℕ
exchanged x = message_bytes x.message

abbrev pub answer_of : Page → Bool → Exchange → List ℕ
answer_of page closing x = answer_to closing (asks page x.message) x.entry

abbrev pub entry_of : Exchange → List Entry
entry_of x = option_to_list x.entry

-- a whole message after which others are allowed, with its entry
pub record IsServed (page : Page) (x : Exchange) : Type 0 where
  pub whole : IsWhole x.message
  pub on : closes x.message.head ≡ false
  pub fits : FitsCall (asks page x.message) x.entry

-- the reply that is sent before the end
abbrev pub ending_text : Ending → List ℕ
ending_text over = []
ending_text (last m) = []
ending_text unframed = refusal_message true refusal.Message
ending_text bad_head = refusal_message true refusal.Message
ending_text long_head = refusal_message true refusal.Head
ending_text (long_body said) = refusal_message true refusal.Body
ending_text (cut_body had said) = []
ending_text (cut_head had) = []

-- the entries and the bytes that an ending brings: those of its last message, or a reply without the desk
abbrev pub BringsCall : Result Request OwnReply → List Entry → List ℕ → Type 0
BringsCall call entries text =
    (entry : Option Entry) × FitsCall call entry × (entries ≡ option_to_list entry) × (text ≡ answer_to true call entry)

abbrev pub Brings : Page → Ending → List Entry → List ℕ → Type 0
Brings page over entries text = (entries ≡ []) × (text ≡ [])
Brings page (last m) entries text = BringsCall (asks page m) entries text
Brings page unframed entries text = (entries ≡ []) × (text ≡ ending_text unframed)
Brings page bad_head entries text = (entries ≡ []) × (text ≡ ending_text bad_head)
Brings page long_head entries text = (entries ≡ []) × (text ≡ ending_text long_head)
Brings page (long_body said) entries text = (entries ≡ []) × (text ≡ ending_text (long_body said))
Brings page (cut_body had said) entries text = (entries ≡ []) × (text ≡ [])
Brings page (cut_head had) entries text = (entries ≡ []) × (text ≡ [])

-- the first list is a front of the second
abbrev pub IsFrontOf : List ℕ → List ℕ → Type 0
IsFrontOf text whole = (missing : List ℕ) × (whole ≡ text ++ missing)

-- the stream ends so, and brings these
abbrev pub Ended : Page → ℕ → ℕ → List ℕ → ConnEnd → List Entry → List ℕ → Type 0
Ended page at count rest end entries text =
    (ending : Ending) × EndsSo count rest ending × (end_of at ending ≡ end) × Brings page ending entries text

-- before or while a whole message was answered
abbrev pub BreaksCall : Page → ℕ → List ℕ → List Entry → List ℕ → Type 0
BreaksCall page count rest entries text =
    (m : Message) × (more : List ℕ) × (entry : Option Entry) × IsWhole m × (rest ≡ message_bytes m ++ more)
    × FitsCall (asks page m) entry × (entries ≡ option_to_list entry)
    × IsFrontOf text (answer_to (is_last count m) (asks page m) entry)

-- or while the reply before an end was sent
abbrev pub BreaksEnd : ℕ → List ℕ → List Entry → List ℕ → Type 0
BreaksEnd count rest entries text =
    (ending : Ending) × EndsSo count rest ending × (entries ≡ []) × IsFrontOf text (ending_text ending)

-- The link failed or memory ran out: what was sent is a front of what would have been.
abbrev pub Breaks : Page → ℕ → List ℕ → List Entry → List ℕ → Type 0
Breaks page count rest entries text =
    ((entries ≡ []) × (text ≡ [])) ⊎ (BreaksCall page count rest entries text ⊎ BreaksEnd count rest entries text)

-- the next message asks the desk, which could answer no more
abbrev pub IsRefusedTurn : Page → List ℕ → List Entry → List ℕ → Type 0
IsRefusedTurn page rest entries text =
    (m : Message) × (more : List ℕ) × (request : Request) × IsWhole m × (rest ≡ message_bytes m ++ more)
    × (asks page m ≡ Ok request) × (entries ≡ []) × (text ≡ [])

-- what follows the messages that were answered, from the byte at this place in the stream, by the connection's end
abbrev pub Finishes : Page → ℕ → ℕ → List ℕ → ConnEnd → List Entry → List ℕ → Type 0
Finishes page at count rest (conn.LinkFault way) entries text = Breaks page count rest entries text
Finishes page at count rest conn.Memory entries text = Breaks page count rest entries text
Finishes page at count rest conn.Spent entries text = IsRefusedTurn page rest entries text
Finishes page at count rest conn.Closed entries text = Ended page at count rest conn.Closed entries text
Finishes page at count rest (conn.BadHead place) entries text = Ended page at count rest (conn.BadHead place) entries text
Finishes page at count rest conn.HeadTooLong entries text = Ended page at count rest conn.HeadTooLong entries text
Finishes page at count rest (conn.BodyTooLong said) entries text = Ended page at count rest (conn.BodyTooLong said) entries text
Finishes page at count rest (conn.CutOff had said) entries text = Ended page at count rest (conn.CutOff had said) entries text
Finishes page at count rest (conn.HeadCut had) entries text = Ended page at count rest (conn.HeadCut had) entries text

-- The stream begins with the messages of this log, which were answered, and goes on with the rest.
pub record IsLog (page : Page) (bytes : List ℕ) (log : List Exchange) (rest : List ℕ) : Type 0 where
  pub whole : bytes ≡ flat_map exchanged log ++ rest
  pub each : All (IsServed page) log
  pub few : length log < most_messages

-- the entries of a log, in order
abbrev pub entries_of : List Exchange → List Entry
entries_of log = flat_map entry_of log

abbrev pub log_text : Page → List Exchange → List ℕ
log_text page log = flat_map (answer_of page false) log

-- A connection over these bytes ended so: its entries, in order, are those of the messages that asked the desk, and
-- what was sent are the answers in order, and after them what the end brings.
abbrev pub Served : Page → List ℕ → ConnEnd → List Entry → List ℕ → Type 0
Served page bytes end entries text =
    (log : List Exchange) × (rest : List ℕ) × (later : List Entry) × (more : List ℕ)
    × IsLog page bytes log rest × (entries ≡ entries_of log ++ later) × (text ≡ log_text page log ++ more)
    × Finishes page (length (flat_map exchanged log)) (length log) rest end later more

-- each entry has this day
abbrev pub AreOf : ℕ → List Entry → Type 0
AreOf day entries = All (λ entry. entry.day ≡ record { 0 = day }) entries
