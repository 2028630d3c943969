-- What a connection did, by its stream's one reading.
use Rattle.std.specs.Prelude.{◌≡◌, ℕ, ◌<◌, true, false, List, [], ◌∷◌, ◌++◌, length, map, Result, Ok, Err, All}
use Rattle.std.specs.List.{flat_map}
use Rattle.desk.specs.declared.request.Request.{Request}
use Rattle.desk.specs.Entries.{Entry}
use Rattle.web_desk.specs.declared.conn_end.ConnEnd.{ConnEnd}
use Rattle.web_desk.specs.declared.conn_end.ConnEnd.TheVariants as conn
use Rattle.web_desk.specs.declared.own_reply.OwnReply.{OwnReply}
use Rattle.web_messages.specs.declared.page.Page.{Page}
use Rattle.web_desk.specs.Answers.{entry_message, own_message}
use Rattle.web_messages.specs.Fields.{closes}
use Rattle.web_desk.specs.Served.{Breaks, IsRefusedTurn, asks, ending_text}
use Rattle.web_messages.specs.Streams.{Message, message_bytes, IsWhole, most_messages, Ending, over, last, unframed, bad_head, long_head, long_body, cut_body, cut_head, Messages}
use Rattle.web_desk.specs.Ends.{end_of}

-- the request that a message asks, if any
abbrev pub asked : Result Request OwnReply → List Request
asked (Ok request) = request ∷ []
asked (Err own_reply) = []

-- the requests that messages ask, in order
abbrev pub requests_in : Page → List Message → List Request
requests_in page messages = flat_map (λ m. asked (asks page m)) messages

-- the request of an ending's last message
abbrev pub requests_at : Page → Ending → List Request
requests_at page over = []
requests_at page (last m) = asked (asks page m)
requests_at page unframed = []
requests_at page bad_head = []
requests_at page long_head = []
requests_at page (long_body said) = []
requests_at page (cut_body had said) = []
requests_at page (cut_head had) = []

abbrev pub requests_of : List Entry → List Request
requests_of entries = map (λ entry. entry.request) entries

-- what is answered to a message that asks the desk, with the first of some entries, or to one that is answered without
abbrev pub answer_with : Result Request OwnReply → List Entry → List ℕ
answer_with (Ok request) [] = []
answer_with (Ok request) (entry ∷ entries) = entry_message false entry
answer_with (Err own_reply) entries = own_message false own_reply

abbrev pub entries_behind : Result Request OwnReply → List Entry → List Entry
entries_behind (Ok request) [] = []
entries_behind (Ok request) (entry ∷ entries) = entries
entries_behind (Err own_reply) entries = entries

-- the answers to messages in order, each that asks with the next of the entries
abbrev pub answers_to : Page → List Message → List Entry → List ℕ
answers_to page [] entries = []
answers_to page (m ∷ ms) entries = answer_with (asks page m) entries ++ answers_to page ms (entries_behind (asks page m) entries)

-- the answer to a last message, after which the connection closes
abbrev pub last_answer : Result Request OwnReply → List Entry → List ℕ
last_answer (Ok request) [] = []
last_answer (Ok request) (entry ∷ entries) = entry_message true entry
last_answer (Err own_reply) entries = own_message true own_reply

-- what is sent at an ending: the answer to its last message, or the reply before the end
abbrev pub text_at : Page → Ending → List Entry → List ℕ
text_at page over entries = []
text_at page (last m) entries = last_answer (asks page m) entries
text_at page unframed entries = ending_text unframed
text_at page bad_head entries = ending_text bad_head
text_at page long_head entries = ending_text long_head
text_at page (long_body said) entries = ending_text (long_body said)
text_at page (cut_body had said) entries = []
text_at page (cut_head had) entries = []

-- The connection came to the end of its stream. Its end is the one of the stream's reading; its entries are of the requests
-- that the messages ask, in order; and the bytes sent are the answers in order, and then what belongs to the end.
abbrev pub FollowsReading : Page → List ℕ → ConnEnd → List Entry → List ℕ → Type 0
FollowsReading page bytes end entries text =
    (before : List Message) × (rest : List ℕ) × (ending : Ending) × (first : List Entry) × (later : List Entry) × Messages bytes before rest ending
    × (end ≡ end_of (length (flat_map message_bytes before)) ending)
    × (entries ≡ first ++ later) × (requests_of first ≡ requests_in page before) × (requests_of later ≡ requests_at page ending)
    × (text ≡ answers_to page before first ++ text_at page ending later)

-- These messages are the first of the stream, and others may follow them: they are a front of those of its reading.
pub record IsFront (bytes : List ℕ) (messages : List Message) (rest : List ℕ) : Type 0 where
  pub whole : bytes ≡ flat_map message_bytes messages ++ rest
  pub each : All IsWhole messages
  pub on : All (λ m. closes m.head ≡ false) messages
  pub few : length messages < most_messages
  pub of_reading : (before : List Message) (left : List ℕ) (ending : Ending) → Messages bytes before left ending
      → (others : List Message) × (before ≡ messages ++ others)

-- The connection broke off after the first messages of its stream. Its entries are of their requests, in order, and the bytes
-- sent are their answers; what came after them is as P says.
abbrev pub FollowsFront : Page → (ℕ → List ℕ → List Entry → List ℕ → Type 0) → List ℕ → List Entry → List ℕ → Type 0
FollowsFront page P bytes entries text =
    (messages : List Message) × (rest : List ℕ) × (first : List Entry) × (later : List Entry) × (more : List ℕ) × IsFront bytes messages rest
    × (entries ≡ first ++ later) × (requests_of first ≡ requests_in page messages) × (text ≡ answers_to page messages first ++ more)
    × P (length messages) rest later more

-- What a connection did that ended so: where a call of its link failed or memory ran out, the next message may have an entry,
-- and a front of its answer, or of the reply before the end, may have been sent; where the one who was asked was spent, the
-- next message asks, and has no entry and no answer.
abbrev pub FollowsCourse : Page → List ℕ → ConnEnd → List Entry → List ℕ → Type 0
FollowsCourse page bytes (conn.LinkFault way) entries text = FollowsFront page (Breaks page) bytes entries text
FollowsCourse page bytes conn.Memory entries text = FollowsFront page (Breaks page) bytes entries text
FollowsCourse page bytes conn.Spent entries text = FollowsFront page (λ count rest later more. IsRefusedTurn page rest later more) bytes entries text
FollowsCourse page bytes conn.Closed entries text = FollowsReading page bytes conn.Closed entries text
FollowsCourse page bytes (conn.BadHead at) entries text = FollowsReading page bytes (conn.BadHead at) entries text
FollowsCourse page bytes conn.HeadTooLong entries text = FollowsReading page bytes conn.HeadTooLong entries text
FollowsCourse page bytes (conn.BodyTooLong said) entries text = FollowsReading page bytes (conn.BodyTooLong said) entries text
FollowsCourse page bytes (conn.CutOff had said) entries text = FollowsReading page bytes (conn.CutOff had said) entries text
FollowsCourse page bytes (conn.HeadCut had) entries text = FollowsReading page bytes (conn.HeadCut had) entries text
