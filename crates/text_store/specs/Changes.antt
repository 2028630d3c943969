-- The records of changes.
use Rattle.std.specs.Prelude.{◌≡◌, ℕ, ◌<◌, ◌^◌, true, List, [], ◌∷◌, ◌++◌, length}
use Rattle.std.specs.Str.{is_utf8}
use Rattle.std.specs.Int.{w32, w64, to_le_bytes}
use Rattle.hl_base.specs.declared.change.Latest.{Latest}
use Rattle.hl_base.specs.declared.change.Splice.{Splice as Part}
use Rattle.text_store.specs.declared.change.Change.{Change}
use Rattle.text_store.specs.declared.change.Change.TheVariants.{Splice, Whole, Import}
use Rattle.text_store.specs.Kinds.{import_kind, splice_kind, text_kind}

-- a splice: its place and how many bytes it removes in eight bytes each, and the bytes that it inserts
abbrev pub splice_payload : Part → List ℕ
splice_payload splice = to_le_bytes w64 splice.at ++ to_le_bytes w64 splice.removed ++ splice.inserted

-- an import's state: the length of its name in four bytes, the name, and the day and the count in four each
abbrev pub mark_payload : Latest → List ℕ
mark_payload latest = to_le_bytes w32 (length latest.name) ++ latest.name ++ to_le_bytes w32 latest.day ++ to_le_bytes w32 latest.count

-- S for a splice, T for the whole text, I for an import
abbrev pub kind_of : Change → ℕ
kind_of (Splice splice) = splice_kind
kind_of (Whole text) = text_kind
kind_of (Import latest splice) = import_kind

abbrev pub payload_of : Change → List ℕ
payload_of (Splice splice) = splice_payload splice
payload_of (Whole text) = text
payload_of (Import latest splice) = mark_payload latest ++ splice_payload splice

-- an import's name has fewer than 2^32 bytes
abbrev pub HasShortName : Change → Type 0
HasShortName (Splice splice) = Unit {0}
HasShortName (Whole text) = Unit {0}
HasShortName (Import latest splice) = length latest.name < 2 ^ 32

-- numbers that fit their bytes, and text
abbrev pub IsPart : Part → Type 0
IsPart splice = (splice.at < 2 ^ 64) × (splice.removed < 2 ^ 64)

abbrev pub IsState : Latest → Type 0
IsState latest = (is_utf8 latest.name ≡ true) × (latest.day < 2 ^ 32) × (latest.count < 2 ^ 32)

abbrev pub IsChange : Change → Type 0
IsChange (Splice splice) = IsPart splice
IsChange (Whole text) = Unit {0}
IsChange (Import latest splice) = IsState latest × IsPart splice

abbrev pub AreStates : List Latest → Type 0
AreStates [] = Unit {0}
AreStates (latest ∷ rest) = IsState latest × AreStates rest
