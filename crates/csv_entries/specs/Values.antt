-- What a field is given for a record.
use Rattle.std.specs.Prelude.{ℕ, ◌-◌, ◌==◌, List, [], ◌∷◌, ◌++◌, slice_get, Option, Some, None, unwrap_or, option_map, if◌then◌else◌}
use Rattle.std.specs.List.{flat_map, position}
use Rattle.std.specs.Str.{bytes_eq}
use Rattle.hl_base.specs.Ascii.{percent}
use Rattle.csv_entries.specs.Spaces.{stripped}
use Rattle.csv_rules.specs.Columns.{pieces}
use Rattle.csv_rules.specs.Words.{column_name, after_column_name, is_same_name, are_digits, value_of}
use Rattle.csv_rules.specs.declared.kinds.Value.{Value}
use Rattle.csv_rules.specs.declared.kinds.Value.TheVariants as values

-- a column by its place; empty past the record
abbrev pub column_at : ℕ → List (List ℕ) → List ℕ
column_at place columns = unwrap_or (slice_get columns place) []

-- a column by its number, counted from 1
abbrev pub column : ℕ → List (List ℕ) → List ℕ
column number columns = column_at (number - 1) columns

-- the first name that is this one, with case ignored, names its column
abbrev pub column_named : List ℕ → List (List ℕ) → List (List ℕ) → Option (List ℕ)
column_named name names columns =
    option_map (λ place. column_at place columns) (position (λ other. is_same_name other name) names)

abbrev pub column_numbered : ℕ → List (List ℕ) → Option (List ℕ)
column_numbered number columns = if number == 0 then None else Some (column number columns)

-- The column that a reference means: a number from 1 is that of a column, any other run of digits means none; a name
-- is one of the names.
abbrev pub referred : List ℕ → List (List ℕ) → List (List ℕ) → Option (List ℕ)
referred run names columns =
    if bytes_eq run [] then None
    else if are_digits run then column_numbered (value_of run) columns
    else column_named run names columns

abbrev pub put_column : List ℕ → Option (List ℕ) → List ℕ
put_column piece (Some text) = text ++ after_column_name piece
put_column piece None = percent ∷ piece

-- what stands for a `%` and the text up to the next one
abbrev pub piece_text : List (List ℕ) → List (List ℕ) → List ℕ → List ℕ
piece_text names columns piece = put_column piece (referred (column_name piece) names columns)

abbrev pub filled : List (List ℕ) → List (List ℕ) → List (List ℕ) → List ℕ
filled names columns [] = []
filled names columns (first ∷ more) = first ++ flat_map (piece_text names columns) more

-- A written value with its columns put in: `%N` and `%NAME` by the longest run of letters, digits, `_` and `-`; any
-- other `%` stays.
abbrev pub expanded : List (List ℕ) → List (List ℕ) → List ℕ → List ℕ
expanded names columns written = filled names columns (pieces percent written)

-- the text of a value, without white space and line ends at its ends
abbrev pub text_of : List (List ℕ) → List (List ℕ) → Value → List ℕ
text_of names columns (values.Column number) = stripped (column number columns)
text_of names columns (values.Written written) = stripped (expanded names columns written)
