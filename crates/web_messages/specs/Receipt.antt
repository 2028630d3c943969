-- What has come over a link and isn't used yet.
use Rattle.std.specs.Prelude.{◌≡◌, ◌⊎◌, ℕ, ◌||◌, Bool, true, List, [], ◌++◌, length, nat_le, Option, Some}
use Rattle.httparse.specs.Grammar.{RequestHead}
use Rattle.web_messages.specs.declared.head.Head.{Head}
use Rattle.web_messages.specs.declared.head.Judged.{Judged}
use Rattle.web_messages.specs.declared.head.Judged.TheVariants as judged
use Rattle.web_messages.specs.declared.receive.Stop.{Stop}
use Rattle.web_messages.specs.declared.receive.Stop.TheVariants as stop
use Rattle.web_messages.specs.declared.receive.Next.{Next}
use Rattle.web_messages.specs.declared.receive.Next.TheVariants as next
use Rattle.web_messages.specs.declared.target.Place.TheVariants.{Start, Past}
use Rattle.web_messages.specs.Heads.{facts_of, JudgedSo}
use Rattle.web_messages.specs.Streams.{Message, message_bytes, IsWhole, IsBad, IsOpen, Ending, over, unframed, bad_head, long_head, long_body, cut_body, cut_head, EndsSo, BeginsWith, most_head}
use Rattle.web_messages.specs.Targets.{place_from}
use Rattle.web_messages.specs.Unread.{Unread}

-- The rest of the stream, where the link tells it: what is unread, and what is to come, which is nothing where the end was
-- seen.
abbrev pub IsStream : Option (List ℕ) → Unread → List ℕ → Type 0
IsStream coming u rest = (left : List ℕ) × (coming ≡ Some left) × (rest ≡ u.bytes ++ left) × (u.ended ≡ true → left ≡ [])

-- the rest of the stream stays
abbrev pub Keeps : Option (List ℕ) → Unread → Option (List ℕ) → Unread → Type 0
Keeps coming u coming_now u_now = (rest : List ℕ) → IsStream coming u rest → IsStream coming_now u_now rest

-- the second bytes go on from the first
abbrev pub GoesOn : List ℕ → List ℕ → Type 0
GoesOn bytes bytes_now = (more : List ℕ) × (bytes_now ≡ bytes ++ more)

-- whatever bytes may still come after these
abbrev pub Whatever : Bool → List ℕ → (List ℕ → Type 0) → Type 0
Whatever ended bytes P = (more : List ℕ) → (ended ≡ true → more ≡ []) → P (bytes ++ more)

-- no more bytes can change what a head is judged to be
abbrev pub is_settled : Unread → Bool
is_settled u = u.ended || nat_le most_head (length u.bytes)

-- Bytes were judged, and so they are whatever follows; settled says that nothing follows that counts.
abbrev pub SettledSo : Bool → List ℕ → Judged → Type 0
SettledSo settled bytes (judged.Whole head) = JudgedSo bytes (judged.Whole head)
SettledSo settled bytes judged.Long = JudgedSo bytes judged.Long
SettledSo settled bytes judged.Bad = IsBad bytes × ((settled ≡ true) ⊎ (place_from Start bytes ≡ Past))
SettledSo settled bytes judged.Open = IsOpen bytes × (settled ≡ true)

-- how a stream ends where the reading stopped
abbrev pub ending_of : Stop → Ending
ending_of stop.Over = over
ending_of stop.Unframed = unframed
ending_of stop.BadHead = bad_head
ending_of stop.LongHead = long_head
ending_of (stop.LongBody said) = long_body said
ending_of (stop.CutBody had said) = cut_body had said
ending_of (stop.CutHead had) = cut_head had

-- a whole message is at the front, or so the stream ends, whatever may still come
abbrev pub NextSo : Bool → List ℕ → Next → Type 0
NextSo ended bytes (next.Message head total) =
    (m : Message) × (more : List ℕ) × IsWhole m × (bytes ≡ message_bytes m ++ more)
    × (head ≡ facts_of m.head) × (total ≡ length (message_bytes m))
NextSo ended bytes (next.Stopped s) = Whatever ended bytes (λ rest. EndsSo 0 rest (ending_of s))

-- the bytes begin with a head within the limits, and these are its facts
abbrev pub StartsWith : List ℕ → Head → Type 0
StartsWith bytes head = (h : RequestHead) × (more : List ℕ) × BeginsWith bytes h more × (head ≡ facts_of h)
