-- Which blocks apply to a record, and what fields are given.
use Rattle.std.specs.Prelude.{ℕ, Bool, true, false, not, ◌&&◌, ◌||◌, List, [], ◌∷◌, Option, Some, None, unwrap_or, reverse, if◌then◌else◌}
use Rattle.std.specs.List.{filter, find, flat_map, join_with_byte, list_any, list_all}
use Rattle.hl_base.specs.Ascii.{comma}
use Rattle.query_terms.specs.Patterns.{Known, finds}
use Rattle.csv_entries.specs.Places.{is_field}
use Rattle.csv_entries.specs.Values.{referred, text_of}
use Rattle.csv_rules.specs.declared.kinds.Action.{Action}
use Rattle.csv_rules.specs.declared.kinds.Action.TheVariants as actions
use Rattle.csv_rules.specs.declared.kinds.Assignment.{Assignment}
use Rattle.csv_rules.specs.declared.kinds.Block.{Block}
use Rattle.csv_rules.specs.declared.kinds.Condition.{Condition}
use Rattle.csv_rules.specs.declared.kinds.EntryField.{EntryField}
use Rattle.csv_rules.specs.declared.kinds.EntryField.TheVariants as entry
use Rattle.csv_rules.specs.declared.kinds.Sheet.{Sheet}
use Rattle.csv_rules.specs.declared.kinds.Value.{Value}
use Rattle.csv_entries.specs.declared.fields.Fields.{Fields}

-- what a pattern looks at: one column, which is empty where none is meant, or all of them between commas
abbrev pub looked_at : Option (List ℕ) → List (List ℕ) → List (List ℕ) → List ℕ
looked_at (Some name) names columns = unwrap_or (referred name names columns) []
looked_at None names columns = join_with_byte comma columns

abbrev pub holds_by : Bool → Bool → Bool
holds_by negated found = if negated then not found else found

abbrev pub holds : Known → List (List ℕ) → List (List ℕ) → Condition → Bool
holds known names columns c = holds_by c.negated (finds known c.pattern (looked_at c.column names columns))

-- whether the first of some conditions is to hold together with the one before it
abbrev pub goes_on : List Condition → Bool
goes_on [] = false
goes_on (c ∷ cs) = c.joined

abbrev pub into_first : Condition → List (List Condition) → List (List Condition)
into_first c [] = (c ∷ []) ∷ []
into_first c (g ∷ gs) = (c ∷ g) ∷ gs

-- conditions cut before each that isn't joined to the one before it
abbrev pub groups_of : List Condition → List (List Condition)
groups_of [] = []
groups_of (c ∷ cs) = if goes_on cs then into_first c (groups_of cs) else (c ∷ []) ∷ groups_of cs

-- all conditions of some group hold
abbrev pub some_group : (Condition → Bool) → List Condition → Bool
some_group held conditions = list_any (λ group. list_all held group) (groups_of conditions)

-- the same behind conditions of one group, of which all held or not
abbrev pub some_from : (Condition → Bool) → Bool → List Condition → Bool
some_from held all [] = all
some_from held all (c ∷ cs) =
    if c.joined then some_from held (all && held c) cs else all || some_from held (held c) cs

abbrev pub applies : Known → List (List ℕ) → List (List ℕ) → Block → Bool
applies known names columns block = some_group (holds known names columns) block.conditions

-- the blocks that apply to a record
abbrev pub applying : Known → Sheet → List (List ℕ) → List Block
applying known sheet columns = filter (applies known sheet.names columns) sheet.blocks

-- what they do, in order
abbrev pub actions_in : List Block → List Action
actions_in blocks = flat_map (λ b. b.actions) blocks

abbrev pub assigned : Action → List Assignment
assigned (actions.Assign a) = a ∷ []
assigned actions.Skip = []
assigned actions.End = []

abbrev pub is_end : Action → Bool
is_end actions.End = true
is_end actions.Skip = false
is_end (actions.Assign a) = false

abbrev pub is_skip : Action → Bool
is_skip actions.Skip = true
is_skip actions.End = false
is_skip (actions.Assign a) = false

abbrev pub value_in : Option Assignment → Option Value
value_in (Some a) = Some a.value
value_in None = None

-- what the last assignment to a field gives it
abbrev pub last_to : EntryField → List Assignment → Option Value
last_to field all = value_in (find (λ a. is_field a.field field) (reverse all))

abbrev pub or_else : Option Value → Option Value → Option Value
or_else (Some v) other = Some v
or_else None other = other

-- what a field is given: by the last assignment in a block that applies, else by the last outside
abbrev pub chosen : Sheet → List Block → EntryField → Option Value
chosen sheet blocks field =
    or_else (last_to field (flat_map assigned (actions_in blocks))) (last_to field sheet.assignments)

abbrev pub text_by : List (List ℕ) → List (List ℕ) → Option Value → List ℕ
text_by names columns (Some v) = text_of names columns v
text_by names columns None = []

-- a field's text, which is empty where nothing is given
abbrev pub text_for : Sheet → List (List ℕ) → List Block → EntryField → List ℕ
text_for sheet columns blocks field = text_by sheet.names columns (chosen sheet blocks field)

-- the texts of all fields
abbrev pub fields_for : Sheet → List (List ℕ) → List Block → Fields
fields_for sheet columns blocks = record {
  date = text_for sheet columns blocks entry.Date;
  status = text_for sheet columns blocks entry.Status;
  code = text_for sheet columns blocks entry.Code;
  description = text_for sheet columns blocks entry.Description;
  comment = text_for sheet columns blocks entry.Comment;
  account1 = text_for sheet columns blocks entry.Account1;
  account2 = text_for sheet columns blocks entry.Account2;
  amount = text_for sheet columns blocks entry.Amount;
  amount_in = text_for sheet columns blocks entry.AmountIn;
  amount_out = text_for sheet columns blocks entry.AmountOut;
  amount2 = text_for sheet columns blocks entry.Amount2;
  currency = text_for sheet columns blocks entry.Currency;
}
