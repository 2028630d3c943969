-- The frames of a store's records, as another store may follow them.
use Rattle.std.specs.Prelude.{ℕ, ◌+◌, List, [], ◌∷◌, ◌++◌, drop}
use Rattle.std.specs.Int.{w64, to_le_bytes}
use Rattle.text_store.specs.Entries.{Entry, body, open_entries}
use Rattle.text_store.specs.Image.{number_8}

-- a revision in 8 bytes, low byte first, and a record as it is written behind its gate
abbrev pub frame : ℕ → ℕ → List ℕ → List ℕ
frame revision kind payload = to_le_bytes w64 revision ++ body kind payload

-- the frames of records, of which the first has this revision and each other the next one
abbrev pub frames_from : ℕ → List Entry → List ℕ
frames_from revision [] = []
frames_from revision (entry ∷ entries) = frame revision entry.kind entry.payload ++ frames_from (revision + 1) entries

-- the base revision in a half's header
unfoldable pub base_of : List ℕ → ℕ
base_of file = number_8 (drop 24 file)

-- the frames of a half's open records: that of the C has the base revision
unfoldable pub frames_of : List ℕ → List ℕ
frames_of file = frames_from (base_of file) (open_entries 32 file)
