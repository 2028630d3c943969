-- The records of a file. A record is a gate byte, a kind byte, the payload's length in 8 bytes, low byte first, and the
-- payload. It is open where its gate is 1 and it and the gate byte behind it lie within the file.
use Rattle.std.specs.Prelude.{◌≡◌, ◌≤◌, ℕ, zero, suc, ◌+◌, List, [], ◌∷◌, ◌++◌, length, take, drop, if◌then◌else◌, ◌==◌, ◌&&◌, nat_lt}
use Rattle.std.specs.Int.{w64, to_le_bytes, from_le_bytes}

-- an open record: the place of its gate, its kind and its payload
pub record Entry : Type 0 where
  pub at : ℕ
  pub kind : ℕ
  pub payload : List ℕ

-- a record as it is written behind its gate
abbrev pub body : ℕ → List ℕ → List ℕ
body kind payload = kind ∷ to_le_bytes w64 (length payload) ++ payload

-- the open records from a gate on, up to the first that isn't open; the first number is at least the bytes' length
unfoldable pub open_from : ℕ → ℕ → List ℕ → List Entry
open_from zero at bytes = []
open_from (suc fuel) at [] = []
open_from (suc fuel) at (gate ∷ []) = []
open_from (suc fuel) at (gate ∷ kind ∷ rest) =
    let len = from_le_bytes w64 (take 8 rest) in
    if (gate == 1) && nat_lt (8 + len) (length rest)
    then record { at = at; kind = kind; payload = take len (drop 8 rest) } ∷ open_from fuel (at + 10 + len) (drop (8 + len) rest)
    else []

-- the open records of a file behind a header of so many bytes
unfoldable pub open_entries : ℕ → List ℕ → List Entry
open_entries header file = open_from (length file) header (drop header file)

-- these are the open records of a file's front, whatever gate and bytes stand behind it
pub record IsFront (header : ℕ) (front : List ℕ) (entries : List Entry) : Type 0 where
  pub behind : header ≤ length front
  pub opens : (gate : ℕ) (tail : List ℕ) → open_entries header (front ++ gate ∷ tail) ≡ entries ++ open_from (length (gate ∷ tail)) (length front) (gate ∷ tail)

-- a record and a shut gate, as they are written behind a gate
pub record IsRecord (bytes : List ℕ) : Type 0 where
  pub kind : ℕ
  pub rest : List ℕ
  pub split : bytes ≡ kind ∷ rest ++ 0 ∷ []
  pub size : length rest ≡ 8 + from_le_bytes w64 (take 8 rest)
