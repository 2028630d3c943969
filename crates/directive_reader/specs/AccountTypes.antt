-- The types of accounts, as tags say them.
use Rattle.std.specs.Prelude.{ℕ, ◌+◌, Bool, ◌||◌, List, [], ◌∷◌, if◌then◌else◌, codes, Option, Some, None, Result, Ok, Err, option_map}
use Rattle.std.specs.List.{find}
use Rattle.std.specs.Str.{bytes_eq}
use Rattle.hl_time.specs.Words.{is_word}
use Rattle.book.specs.declared.fault.Fault.{Fault}
use Rattle.book.specs.declared.fault.Cause.TheVariants as cause
use Rattle.book.specs.declared.transaction.Tag.{Tag}
use Rattle.entry_reader.specs.Causes.{fault_at}
use Rattle.entry_reader.specs.Tags.{tags_of}

-- it is the letter or the word, but for case
abbrev pub is_either : List ℕ → List ℕ → List ℕ → Bool
is_either letter word value = is_word value letter || is_word value word

-- the letter of a type that is written as a letter or as an English word
unfoldable pub type_of : List ℕ → Option ℕ
type_of value =
    if is_either (codes "A") (codes "asset") value then Some 65
    else if is_either (codes "L") (codes "liability") value then Some 76
    else if is_either (codes "E") (codes "equity") value then Some 69
    else if is_either (codes "R") (codes "revenue") value then Some 82
    else if is_either (codes "X") (codes "expense") value then Some 88
    else if is_either (codes "C") (codes "cash") value then Some 67
    else if is_either (codes "V") (codes "conversion") value then Some 86
    else None

abbrev pub is_type_tag : Tag → Bool
is_type_tag tag = bytes_eq tag.name (codes "type")

-- the value of the first tag `type` of a comment's line
abbrev pub type_value : List ℕ → Option (List ℕ)
type_value text = option_map (λ tag. tag.value) (find is_type_tag (tags_of text))

-- the letter that is said, which isn't unknown
abbrev pub letter_or : ℕ → Option ℕ → Result (Option ℕ) Fault
letter_or line None = Err (fault_at line cause.Directive)
letter_or line (Some letter) = Ok (Some letter)

-- the letter of a value where it is there, else a later one
abbrev pub letter_said : ℕ → Option (List ℕ) → Result (Option ℕ) Fault → Result (Option ℕ) Fault
letter_said line None later = later
letter_said line (Some value) later = letter_or line (type_of value)

-- the letter of the type that the first tag `type` of some comment lines says, of which the first is the line-th
unfoldable pub letter_in : ℕ → List (List ℕ) → Result (Option ℕ) Fault
letter_in line [] = Ok None
letter_in line (text ∷ texts) = letter_said line (type_value text) (letter_in (line + 1) texts)
