-- What is read of import states and contents.
use Rattle.std.specs.Prelude.{◌≡◌, ◌≤◌, ◌<◌, ◌^◌, ℕ, ◌+◌, ◌*◌, List, [], ◌++◌, length, take, drop, Option, Some, None, Result, Ok, Err}
use Rattle.hl_base.specs.declared.change.Latest.{Latest}
use Rattle.text_store.specs.declared.folding.Content.{Content as Read}
use Rattle.text_store.specs.declared.folding.States.{States}
use Rattle.text_store.specs.declared.folding.Folded.{Folded}
use Rattle.text_store.specs.Entries.{Entry, IsFront}
use Rattle.text_store.specs.Files.{HaveShortNames}
use Rattle.text_store.specs.Image.{Content, mark_at, marks_at}
use Rattle.text_store.specs.Reads.{from_place}

abbrev pub content_in_code : Read → Content
content_in_code content = record { text = content.text.items; latest = content.latest.states.items }

abbrev pub if_content_in_code : Option Read → Option Content
if_content_in_code None = None
if_content_in_code (Some content) = Some (content_in_code content)

-- the state at a place, and the place behind it; or there is none
abbrev pub IsStateAt : List ℕ → ℕ → Option (Latest × ℕ) → Type 0
IsStateAt bytes at None = mark_at (drop at bytes) ≡ None
IsStateAt bytes at (Some found) = (mark_at (drop at bytes) ≡ Some (found.0, drop found.1 bytes)) × (found.1 ≤ length bytes) × (length found.0.name < 2 ^ 32)

-- so many states from a place on, and the place behind them; or they aren't there
abbrev pub AreStatesAt : List ℕ → ℕ → ℕ → Option States → Type 0
AreStatesAt bytes at count None = marks_at count (drop at bytes) ≡ None
AreStatesAt bytes at count (Some found) =
    (marks_at count (drop at bytes) ≡ Some (found.latest.items, drop found.behind bytes)) × (found.behind ≤ length bytes)
    × (length found.latest.items ≡ count) × HaveShortNames found.latest.items

-- what the records of a file came to
abbrev pub end_in_code : Result Folded ℕ → Result Content ℕ
end_in_code (Ok end) = Ok (content_in_code end.content)
end_in_code (Err at) = Err at

-- the gate behind all open records from a place on, of which there are so many
pub record IsEnd (file : List ℕ) (at gate count : ℕ) : Type 0 where
  pub inside : gate < length file
  pub shut : from_place file gate ≡ []
  pub counted : count ≡ length (from_place file at)
  pub few : 10 * count + at ≤ gate
  pub front : (header : ℕ) (before : List Entry) → IsFront header (take at file) before → IsFront header (take gate file) (before ++ from_place file at)
