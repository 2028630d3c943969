-- The columns that a file of rules refers to, and which of them it doesn't name.
use Rattle.std.specs.Prelude.{◌≡◌, ℕ, ◌+◌, nat_lt, Bool, true, false, not, ◌||◌, List, [], ◌∷◌, ◌++◌, drop, Option, Some, None, Result, Ok, Err, if◌then◌else◌}
use Rattle.std.specs.List.{filter, flat_map, list_any}
use Rattle.std.specs.Str.{bytes_eq}
use Rattle.hl_base.specs.Ascii.{percent}
use Rattle.entry_reader.specs.Lines.{contents_of}
use Rattle.csv_rules.specs.Columns.{pieces}
use Rattle.csv_rules.specs.Drafts.{Progress, start, put}
use Rattle.csv_rules.specs.Forms.{form_of}
use Rattle.csv_rules.specs.Reading.{rules_of}
use Rattle.csv_rules.specs.Words.{are_digits, column_name, is_same_name, value_of}
use Rattle.csv_rules.specs.declared.forms.Form.{Form}
use Rattle.csv_rules.specs.declared.forms.Form.TheVariants as forms
use Rattle.csv_rules.specs.declared.kinds.Action.{Action}
use Rattle.csv_rules.specs.declared.kinds.Action.TheVariants as actions
use Rattle.csv_rules.specs.declared.kinds.Condition.{Condition}
use Rattle.csv_rules.specs.declared.kinds.Sheet.{Sheet}
use Rattle.csv_rules.specs.declared.kinds.Value.{Value}
use Rattle.csv_rules.specs.declared.kinds.Value.TheVariants as values
use Rattle.csv_rules.specs.declared.references.Reference.{Reference}

-- ---- what rules refer to

-- a reference to a column, where a name or a number follows the `%`
abbrev pub reference_to : ℕ → List ℕ → List Reference
reference_to line name = if bytes_eq name [] then [] else record { line = line; name = name } ∷ []

-- that of the text behind a `%`
abbrev pub reference_at : ℕ → List ℕ → List Reference
reference_at line behind = reference_to line (column_name behind)

-- the references of a text, one for each `%` that a name or a number follows
abbrev pub references_in : ℕ → List ℕ → List Reference
references_in line text = flat_map (reference_at line) (drop 1 (pieces percent text))

abbrev pub value_references : ℕ → Value → List Reference
value_references line (values.Column number) = []
value_references line (values.Written text) = references_in line text

abbrev pub action_references : ℕ → Action → List Reference
action_references line (actions.Assign a) = value_references line a.value
action_references line actions.Skip = []
action_references line actions.End = []

-- that of a pattern which looks at one column alone
abbrev pub column_reference : ℕ → Option (List ℕ) → List Reference
column_reference line (Some name) = reference_to line name
column_reference line None = []

abbrev pub first_references : ℕ → Option Condition → List Reference
first_references line (Some c) = column_reference line c.column
first_references line None = []

-- the references of a line
abbrev pub form_references : ℕ → Form → List Reference
form_references line forms.Remark = []
form_references line (forms.Set setting) = []
form_references line (forms.Fields names) = []
form_references line (forms.DateFormat parts) = []
form_references line (forms.Assign a) = value_references line a.value
form_references line (forms.If condition) = first_references line condition
form_references line (forms.Ask condition) = column_reference line condition.column
form_references line (forms.Act action) = action_references line action

abbrev pub for_form : Option Form → (Form → List Reference) → List Reference
for_form (Some form) made = made form
for_form None made = []

-- the references of some lines that follow others, of which the first has a number
abbrev pub references_from : Progress → ℕ → List (List ℕ) → List Reference
references_from p line [] = []
references_from p line (l ∷ ls) =
    for_form (form_of p.stage l) (λ form. form_references line form ++ references_from (put p form) (line + 1) ls)

-- the references of a file of rules, line by line
abbrev pub references_of : List ℕ → List Reference
references_of text = references_from start 1 (contents_of text)

-- ---- which of them no column has

-- a number from 1, or one of the names
abbrev pub is_column : List (List ℕ) → List ℕ → Bool
is_column names name =
    if are_digits name then nat_lt 0 (value_of name) else list_any (λ other. is_same_name other name) names

-- the first reference to each name
abbrev pub first_of_each : List Reference → List Reference
first_of_each [] = []
first_of_each (r ∷ rs) = r ∷ filter (λ other. not (is_same_name other.name r.name)) (first_of_each rs)

-- the first reference to each name that isn't a column's
abbrev pub unknown_in : List (List ℕ) → List Reference → List Reference
unknown_in names references = first_of_each (filter (λ r. not (is_column names r.name)) references)

abbrev pub unknown_at : Option Sheet → List Reference → List Reference
unknown_at (Some sheet) references = unknown_in sheet.names references
unknown_at None references = []

abbrev pub unknown_by : Result Sheet ℕ → List Reference → List Reference
unknown_by (Ok sheet) references = unknown_at (Some sheet) references
unknown_by (Err line) references = unknown_at None references

-- The columns that a file of rules refers to and doesn't name, each with the first line that does; none where a line isn't of its
-- form or the last block has no assignment. Whether the patterns compile doesn't matter.
abbrev pub unknown_columns : List ℕ → List Reference
unknown_columns text = unknown_by (rules_of text) (references_of text)

-- ---- one by one

-- a reference behind others, unless it is to a column or to a name that one of them has
abbrev pub with_unknown : List (List ℕ) → List Reference → Reference → List Reference
with_unknown names found r =
    if is_column names r.name || list_any (λ other. is_same_name other.name r.name) found then found else found ++ r ∷ []

-- a line is of a form: what it says is added, and its references
pub record TakesForm (line : ℕ) (content : List ℕ) (old new : Progress) (before now : List Reference) : Type 0 where
  pub form : Form
  pub said : form_of old.stage content ≡ Some form
  pub references : now ≡ before ++ form_references line form
  pub added : new ≡ put old form

-- or it isn't of its form
abbrev pub TakesReferences : Bool → ℕ → List ℕ → Progress → Progress → List Reference → List Reference → Type 0
TakesReferences true line content old new before now = TakesForm line content old new before now
TakesReferences false line content old new before now = form_of old.stage content ≡ None
