-- What the two files of a store stand for.
use Rattle.std.specs.Prelude.{ℕ, zero, suc, ◌+◌, ◌%◌, ◌^◌, Bool, true, List, [], ◌∷◌, ◌++◌, length, take, drop, slice_index, if◌then◌else◌, ◌==◌, ◌&&◌, not, nat_lt, nat_le, Option, Some, None, Result, Ok, Err, codes}
use Rattle.std.specs.Int.{w32, w64, from_le_bytes}
use Rattle.std.specs.Str.{is_utf8, bytes_eq}
use Rattle.std.specs.List.{list_any}
use Rattle.hl_base.specs.declared.change.Latest.{Latest}
use Rattle.text_store.specs.declared.image.Image.{Image}
use Rattle.text_store.specs.Entries.{Entry, open_entries}
use Rattle.text_store.specs.Kinds.{image_kind, import_kind, splice_kind, text_kind}

-- the text and the import states
pub record Content : Type 0 where
  pub text : List ℕ
  pub latest : List Latest

-- the number in a list's first four or eight bytes, low byte first
abbrev pub number_4 : List ℕ → ℕ
number_4 bytes = from_le_bytes w32 (take 4 bytes)

abbrev pub number_8 : List ℕ → ℕ
number_8 bytes = from_le_bytes w64 (take 8 bytes)

-- a name's length in four bytes, the name, a day and a count in four each, and what stands behind them
abbrev pub mark_at : List ℕ → Option (Latest × List ℕ)
mark_at bytes =
    let size = number_4 bytes in
    let name = take size (drop 4 bytes) in
    if nat_le (12 + size) (length bytes) && is_utf8 name
    then Some (record { name = name; day = number_4 (drop (4 + size) bytes); count = number_4 (drop (8 + size) bytes) }, drop (12 + size) bytes)
    else None

abbrev pub same_name : Latest → Latest → Bool
same_name a b = bytes_eq a.name b.name

-- the states, with this one in the place of that of its name, or behind them
abbrev pub with_mark : Latest → List Latest → List Latest
with_mark mark [] = mark ∷ []
with_mark mark (m ∷ marks) = if same_name m mark then mark ∷ marks else m ∷ with_mark mark marks

-- a place and a count of bytes to remove in eight bytes each, and the bytes that take their place; they lie in the text
abbrev pub spliced : List ℕ → List ℕ → Option (List ℕ)
spliced text payload =
    let at = number_8 payload in
    let removed = number_8 (drop 8 payload) in
    if nat_le 16 (length payload) && nat_le (at + removed) (length text)
    then Some (take at text ++ drop 16 payload ++ drop (at + removed) text)
    else None

abbrev pub with_text : List Latest → Option (List ℕ) → Option Content
with_text latest None = None
with_text latest (Some text) = Some (record { text = text; latest = latest })

abbrev pub imported : Content → Option (Latest × List ℕ) → Option Content
imported content None = None
imported content (Some (mark, payload)) =
    let latest = with_mark mark content.latest in
    if nat_lt (length latest) (2 ^ 32) then with_text latest (spliced content.text payload) else None

-- a record's change: T is the whole text, S a splice, I an import's state and its splice; none, where it is bad
abbrev pub changed : Content → Entry → Option Content
changed content entry =
    if entry.kind == text_kind then Some (record { text = entry.payload; latest = content.latest })
    else (if entry.kind == splice_kind then with_text content.latest (spliced content.text entry.payload)
    else (if entry.kind == import_kind then imported content (mark_at entry.payload)
    else None))

-- what a step gives from a content, or the place where there is none
abbrev pub going_on : Option Content → ℕ → (Content → Result Content ℕ) → Result Content ℕ
going_on None at next = Err at
going_on (Some content) at next = next content

-- the records, one after the other, or the gate of the first bad one
abbrev pub folded : List Entry → Content → Result Content ℕ
folded [] content = Ok content
folded (entry ∷ entries) content = going_on (changed content entry) entry.at (λ next. folded entries next)

abbrev pub with_first : Latest → Option (List Latest × List ℕ) → Option (List Latest × List ℕ)
with_first mark None = None
with_first mark (Some (marks, rest)) = Some (mark ∷ marks, rest)

abbrev pub more_marks : Option (Latest × List ℕ) → (List ℕ → Option (List Latest × List ℕ)) → Option (List Latest × List ℕ)
more_marks None next = None
more_marks (Some (mark, rest)) next = with_first mark (next rest)

-- so many import states, and what stands behind them
abbrev pub marks_at : ℕ → List ℕ → Option (List Latest × List ℕ)
marks_at zero bytes = Some ([], bytes)
marks_at (suc n) bytes = more_marks (mark_at bytes) (λ rest. marks_at n rest)

abbrev pub have_own_names : List Latest → Bool
have_own_names [] = true
have_own_names (mark ∷ marks) = not (list_any (same_name mark) marks) && have_own_names marks

-- the payload of a C: the number of import states in four bytes, the states, and the text; none, where it doesn't read
abbrev pub content_of : Option (List Latest × List ℕ) → Option Content
content_of None = None
content_of (Some (marks, text)) = if have_own_names marks then Some (record { text = text; latest = marks }) else None

abbrev pub checkpointed : List ℕ → Option Content
checkpointed payload = if nat_le 4 (length payload) then content_of (marks_at (number_4 payload) (drop 4 payload)) else None

-- a half of version 2: its limit, its generation, its base revision, its content at the first record, and the records behind that
pub record Half : Type 0 where
  pub limit : ℕ
  pub generation : ℕ
  pub base : ℕ
  pub start : Content
  pub entries : List Entry

abbrev pub started : ℕ → ℕ → ℕ → Option Content → List Entry → Option Half
started limit generation base None entries = None
started limit generation base (Some start) entries = Some (record { limit = limit; generation = generation; base = base; start = start; entries = entries })

abbrev pub first_of : ℕ → ℕ → ℕ → List Entry → Option Half
first_of limit generation base [] = None
first_of limit generation base (entry ∷ entries) = if entry.kind == image_kind then started limit generation base (checkpointed entry.payload) entries else None

abbrev pub letters : List ℕ
letters = codes "HLSTORE"

-- the live half of these 32 bytes and these open records: the letters, the version 2, a generation of 0, 1 or 2, a base of at
-- most 2^62, and a C whose payload reads
abbrev pub live_of : List ℕ → List Entry → Option Half
live_of head entries =
    let generation = number_8 (drop 16 head) in
    let base = number_8 (drop 24 head) in
    if bytes_eq (take 8 head) (letters ++ 2 ∷ []) && nat_le generation 2 && nat_le base (2 ^ 62)
    then first_of (number_8 (drop 8 head)) generation base entries
    else None

abbrev pub live : List ℕ → Option Half
live file = live_of (take 32 file) (open_entries 32 file)

-- of two live halves the one whose generation follows the other's, and the first where they are equal
abbrev pub chosen : Option Half → Option Half → Option Half
chosen None second = second
chosen (Some first) None = Some first
chosen (Some first) (Some second) = if second.generation == (first.generation + 1) % 3 then Some second else Some first

-- why two files have no image: no store, with a place, or a newer version
pub data NoImage : Type 0 where
  NotAStore : ℕ → NoImage
  Newer : ℕ → NoImage

abbrev pub image_at : ℕ → Result Content ℕ → Result Image NoImage
image_at revision (Ok content) = Ok (record { text = content.text; latest = content.latest; revision = revision })
image_at revision (Err at) = Err (NotAStore at)

abbrev pub half_image : Half → Result Image NoImage
half_image half = image_at (half.base + length half.entries) (folded half.entries half.start)

-- a file of version 1: a header of 16 bytes and a T, and then the other records
abbrev pub old_records : List Entry → Result Image NoImage
old_records [] = Err (NotAStore 16)
old_records (entry ∷ entries) =
    if entry.kind == text_kind then image_at (length entries) (folded entries (record { text = entry.payload; latest = [] })) else Err (NotAStore 16)

abbrev pub old_image : List ℕ → Result Image NoImage
old_image file = if nat_lt (length file) 17 then Err (NotAStore 0) else old_records (open_entries 16 file)

-- where no half is live, the first file may be of version 1 or of a newer one
abbrev pub other_image : List ℕ → Result Image NoImage
other_image file =
    let version = slice_index file 7 in
    if bytes_eq (take 7 file) letters && nat_lt 0 version
    then (if version == 1 then old_image file else (if nat_lt 2 version then Err (Newer version) else Err (NotAStore 0)))
    else Err (NotAStore 0)

abbrev pub image_of : Option Half → List ℕ → Result Image NoImage
image_of None first = other_image first
image_of (Some half) first = half_image half

-- the image of a store's two files
abbrev pub image : List ℕ → List ℕ → Result Image NoImage
image first second = image_of (chosen (live first) (live second)) first
