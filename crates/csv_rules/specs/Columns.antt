-- The names of columns, and the fields that they assign.
use Rattle.std.specs.Prelude.{ℕ, true, ◌+◌, ◌==◌, List, [], ◌∷◌, ◌++◌, map, Option, Some, None, if◌then◌else◌}
use Rattle.hl_base.specs.Ascii.{comma}
use Rattle.hl_base.specs.Lines.{onto}
use Rattle.entry_reader.specs.Lines.{trimmed}
use Rattle.csv_rules.specs.Words.{field_named}
use Rattle.csv_rules.specs.declared.kinds.Assignment.{Assignment}
use Rattle.csv_rules.specs.declared.kinds.EntryField.{EntryField}
use Rattle.csv_rules.specs.declared.kinds.Value.{Value}
use Rattle.csv_rules.specs.declared.kinds.Value.TheVariants as values

-- the pieces of a text between such bytes
abbrev pub pieces : ℕ → List ℕ → List (List ℕ)
pieces byte [] = [] ∷ []
pieces byte (b ∷ bs) = if b == byte then [] ∷ pieces byte bs else onto b (pieces byte bs)

-- the names between commas, without the white space around them
abbrev pub names_of : List ℕ → List (List ℕ)
names_of text = map trimmed (pieces comma text)

abbrev pub assignment : EntryField → Value → Assignment
assignment field value = record { field = field; value = value }

abbrev pub column_for : ℕ → Option EntryField → List Assignment
column_for number (Some field) = assignment field (values.Column number) ∷ []
column_for number None = []

-- a column whose name is that of a field is assigned to the field
abbrev pub column : ℕ → List ℕ → List Assignment
column number name = column_for number (field_named true name)

-- the columns from a number on
abbrev pub columns_from : ℕ → List (List ℕ) → List Assignment
columns_from number [] = []
columns_from number (name ∷ names) = column number name ++ columns_from (number + 1) names
