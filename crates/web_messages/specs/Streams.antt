-- The messages of a stream of bytes, and the way in which the stream ends.
use Rattle.std.specs.Prelude.{◌≡◌, ℕ, ◌+◌, ◌<◌, ◌≤◌, ◌⊎◌, ◌==◌, ◌||◌, Bool, true, false, List, [], ◌++◌, length, take, Some, None, All}
use Rattle.std.specs.List.{flat_map}
use Rattle.httparse.specs.Grammar.{RequestHead, IsRequestHead, print_request, ReadsRequest, HasNoRequest, NeverHasRequest, MayBecomeRequest}
use Rattle.web_messages.specs.Fields.{fields_of, body_length, closes}
use Rattle.web_messages.specs.Targets.{IsInTarget}

-- the most bytes and fields of a head, the most bytes of a body, and the most messages of a connection
abbrev pub most_head : ℕ
most_head = 16384

abbrev pub most_fields : ℕ
most_fields = 64

abbrev pub most_body : ℕ
most_body = 8388608

abbrev pub most_messages : ℕ
most_messages = 1000000

pub record Message : Type 0 where
  pub head : RequestHead
  pub body : List ℕ

abbrev pub message_bytes : Message → List ℕ
message_bytes m = print_request m.head ++ m.body

-- a head within the limits
pub record IsShort (h : RequestHead) : Type 0 where
  pub bytes : length (print_request h) ≤ most_head
  pub fields : length h.fields ≤ most_fields

-- a head within the limits, and a body of the length that the head says
pub record IsWhole (m : Message) : Type 0 where
  pub head : IsRequestHead m.head
  pub short : IsShort m.head
  pub said : body_length (fields_of m.head) ≡ Some (length m.body)
  pub bounded : length m.body ≤ most_body

-- the connection closes after the reply to this message, before which so many came
abbrev pub is_last : ℕ → Message → Bool
is_last count m = closes m.head || count + 1 == most_messages

-- the rest of a stream begins with a head within the limits
abbrev pub BeginsWith : List ℕ → RequestHead → List ℕ → Type 0
BeginsWith rest h more = ReadsRequest rest h more × IsShort h

-- the bytes in which a head has to be whole
abbrev pub front : List ℕ → List ℕ
front rest = take most_head rest

-- no bytes can follow that make these a head, and they don't end inside a target
pub record IsBad (bytes : List ℕ) : Type 0 where
  pub never : NeverHasRequest bytes
  pub outside : IsInTarget bytes → ⊥

-- no head stands here, but one may come, or the bytes end inside a target
pub record IsOpen (bytes : List ℕ) : Type 0 where
  pub none : HasNoRequest bytes
  pub open_still : MayBecomeRequest bytes ⊎ IsInTarget bytes

-- the ways in which a stream ends
pub data Ending : Type 0 where
  -- between two messages
  over : Ending
  -- with this message, after which the connection closes
  last : Message → Ending
  -- with a head that says no length of its body that can be used
  unframed : Ending
  bad_head : Ending
  long_head : Ending
  -- with a head that says a body of so many bytes, which are too many
  long_body : ℕ → Ending
  -- inside a body of which so many bytes came, and so many were said
  cut_body : ℕ → ℕ → Ending
  -- inside a head of which so many bytes came
  cut_head : ℕ → Ending

-- so the rest of a stream ends, after so many messages
abbrev pub EndsSo : ℕ → List ℕ → Ending → Type 0
EndsSo count rest over = rest ≡ []
EndsSo count rest (last m) = (more : List ℕ) × (rest ≡ message_bytes m ++ more) × IsWhole m × (is_last count m ≡ true)
EndsSo count rest unframed = (h : RequestHead) × (more : List ℕ) × BeginsWith rest h more × (body_length (fields_of h) ≡ None)
EndsSo count rest bad_head = IsBad (front rest)
EndsSo count rest long_head =
    (IsOpen (front rest) × (most_head ≤ length rest))
    ⊎ ((h : RequestHead) × (more : List ℕ) × ReadsRequest rest h more × (length (print_request h) ≤ most_head) × (most_fields < length h.fields))
EndsSo count rest (long_body said) =
    (h : RequestHead) × (more : List ℕ) × BeginsWith rest h more × (body_length (fields_of h) ≡ Some said) × (most_body < said)
EndsSo count rest (cut_body had said) =
    (h : RequestHead) × (more : List ℕ) × BeginsWith rest h more × (body_length (fields_of h) ≡ Some said)
    × (said ≤ most_body) × (length more < said) × (had ≡ length more)
EndsSo count rest (cut_head had) = IsOpen rest × (0 < length rest) × (length rest < most_head) × (had ≡ length rest)

-- These are the messages of a stream, each but a last one with others allowed after it, and so the stream ends.
pub record Messages (bytes : List ℕ) (before : List Message) (rest : List ℕ) (ending : Ending) : Type 0 where
  pub whole : bytes ≡ flat_map message_bytes before ++ rest
  pub each : All IsWhole before
  pub on : All (λ m. closes m.head ≡ false) before
  pub few : length before < most_messages
  pub ends : EndsSo (length before) rest ending

-- nothing is left over, or a whole message after which the connection closes
abbrev pub ClosesWell : Ending → Type 0
ClosesWell over = Unit {0}
ClosesWell (last m) = Unit {0}
ClosesWell other = ⊥

-- The stream is whole messages within the limits, to its end or up to one after which the connection closes.
abbrev pub IsOfWhole : List ℕ → Type 0
IsOfWhole bytes =
    (before : List Message) × (rest : List ℕ) × (ending : Ending) × Messages bytes before rest ending × ClosesWell ending
