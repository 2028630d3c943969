-- What is read of a file's records.
use Rattle.std.specs.Prelude.{◌≡◌, ◌≤◌, ◌<◌, ℕ, ◌+◌, List, [], ◌∷◌, ◌++◌, length, take, drop, Option, None, Some}
use Rattle.text_store.specs.declared.records.Record.{Record}
use Rattle.text_store.specs.Entries.{Entry, open_from, IsFront}

-- a record with its payload, which stands in the file
abbrev pub entry_of : List ℕ → Record → Entry
entry_of file r = record { at = r.at; kind = r.kind; payload = take r.len (drop r.payload file) }

-- the open records from a place on
abbrev pub from_place : List ℕ → ℕ → List Entry
from_place file at = open_from (length file) at (drop at file)

-- the record whose gate is at a place, behind which a gate lies further on, so that the bytes up to that one are a front if those
-- up to this one are; or there is no open one
abbrev pub IsNext : List ℕ → ℕ → Option Record → Type 0
IsNext file at None = from_place file at ≡ []
IsNext file at (Some r) = (from_place file at ≡ entry_of file r ∷ from_place file (r.payload + r.len)) × (at + 10 ≤ r.payload + r.len) × (r.payload + r.len < length file)
    × ((header : ℕ) (entries : List Entry) → IsFront header (take at file) entries → IsFront header (take (r.payload + r.len) file) (entries ++ entry_of file r ∷ []))
