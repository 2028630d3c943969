-- How one line of a file of rules reads. A line's content has no white space at its end.
use Rattle.std.specs.Prelude.{ℕ, Bool, false, ◌&&◌, ◌||◌, not, List, [], ◌∷◌, drop, codes, Option, Some, None, option_map, if◌then◌else◌}
use Rattle.std.specs.Str.{is_utf8, bytes_eq}
use Rattle.hl_base.specs.Ascii.{asterisk, colon, comma, dot, exclamation, hash, percent, semicolon, space, tab}
use Rattle.hl_base.specs.Items.{is_white}
use Rattle.entry_reader.specs.Lines.{begins, first_is, after_white}
use Rattle.query_terms.specs.Patterns.{pattern_of}
use Rattle.csv_rules.specs.Columns.{names_of, assignment}
use Rattle.csv_rules.specs.Formats.{format_of}
use Rattle.csv_rules.specs.Words.{name_at, after_name, column_name, after_column_name, are_digits, value_of, field_named, word_of}
use Rattle.csv_rules.specs.declared.forms.Form.{Form}
use Rattle.csv_rules.specs.declared.forms.Form.TheVariants as forms
use Rattle.csv_rules.specs.declared.forms.Setting.{Setting}
use Rattle.csv_rules.specs.declared.forms.Setting.TheVariants as settings
use Rattle.csv_rules.specs.declared.forms.Stage.{Stage}
use Rattle.csv_rules.specs.declared.forms.Stage.TheVariants as stages
use Rattle.csv_rules.specs.declared.forms.Word.{Word}
use Rattle.csv_rules.specs.declared.forms.Word.TheVariants as words
use Rattle.csv_rules.specs.declared.kinds.Action.TheVariants as actions
use Rattle.csv_rules.specs.declared.kinds.Assignment.{Assignment}
use Rattle.csv_rules.specs.declared.kinds.Condition.{Condition}
use Rattle.csv_rules.specs.declared.kinds.EntryField.{EntryField}
use Rattle.csv_rules.specs.declared.kinds.Value.TheVariants as values

-- it is blank, or begins with `#`, `;` or `*`
abbrev pub is_ignored : List ℕ → Bool
is_ignored content = bytes_eq content [] || begins content hash || begins content semicolon || begins content asterisk

abbrev pub is_indented : List ℕ → Bool
is_indented content = first_is is_white content

-- `skip`, or `skip` and a number
abbrev pub skip_of : List ℕ → Option ℕ
skip_of rest =
    if bytes_eq rest [] then Some 1
    else if first_is is_white rest && are_digits (after_white rest) then Some (value_of (after_white rest))
    else None

abbrev pub skip_form : List ℕ → Option Form
skip_form rest = option_map (λ n. forms.Set (settings.Skip n)) (skip_of rest)

abbrev pub byte_of : List ℕ → Option ℕ
byte_of (b ∷ []) = Some b
byte_of _ = None

-- one byte, SPACE or TAB
abbrev pub separator_of : List ℕ → Option ℕ
separator_of text =
    if bytes_eq text (codes "SPACE") then Some space
    else if bytes_eq text (codes "TAB") then Some tab
    else byte_of text

abbrev pub separator_form : List ℕ → Option Form
separator_form rest =
    if first_is is_white rest then option_map (λ b. forms.Set (settings.Separator b)) (separator_of (after_white rest)) else None

-- `.` or `,`
abbrev pub mark_of : List ℕ → Option ℕ
mark_of text = if bytes_eq text (codes ".") then Some dot else if bytes_eq text (codes ",") then Some comma else None

abbrev pub mark_form : List ℕ → Option Form
mark_form rest =
    if first_is is_white rest then option_map (λ b. forms.Set (settings.DecimalMark b)) (mark_of (after_white rest)) else None

-- a setting of one word, which nothing follows
abbrev pub alone : List ℕ → Setting → Option Form
alone rest setting = if bytes_eq rest [] then Some (forms.Set setting) else None

abbrev pub fields_form : List ℕ → Option Form
fields_form rest = if first_is is_white rest then Some (forms.Fields (names_of (after_white rest))) else None

abbrev pub format_form : List ℕ → Option Form
format_form rest =
    if first_is is_white rest then option_map (λ parts. forms.DateFormat parts) (format_of (after_white rest)) else None

-- nothing, or a colon or white space before a value
abbrev pub begins_value : List ℕ → Bool
begins_value rest = bytes_eq rest [] || begins rest colon || first_is is_white rest

-- what follows a mark and white space, where the text begins with the mark
abbrev pub after_mark : ℕ → List ℕ → List ℕ
after_mark mark text = if begins text mark then after_white (drop 1 text) else after_white text

abbrev pub value_text : List ℕ → List ℕ
value_text rest = after_mark colon rest

-- `FIELD`, `FIELD VALUE` or `FIELD: VALUE`
abbrev pub assignment_of : EntryField → List ℕ → Option Assignment
assignment_of field rest = if begins_value rest then Some (assignment field (values.Written (value_text rest))) else None

abbrev pub assign_form : EntryField → List ℕ → Option Form
assign_form field rest = option_map (λ a. forms.Assign a) (assignment_of field rest)

-- it begins with a column's name
abbrev pub begins_column : List ℕ → Bool
begins_column text = not (bytes_eq (column_name text) [])

-- a pattern looks at one column alone where `%` and a name stand before it
abbrev pub names_column : List ℕ → Bool
names_column text = begins text percent && begins_column (drop 1 text)

abbrev pub column_at : List ℕ → Option (List ℕ)
column_at text = if names_column text then Some (column_name (drop 1 text)) else None

abbrev pub after_column : List ℕ → List ℕ
after_column text = if names_column text then after_white (after_column_name (drop 1 text)) else text

-- what stands behind `&`, `!` and the column
abbrev pub pattern_text : List ℕ → List ℕ
pattern_text text = after_column (after_mark exclamation (after_mark 38 text))

abbrev pub condition : Bool → Bool → Option (List ℕ) → List ℕ → Condition
condition joined negated column pattern =
    record { joined = joined; negated = negated; column = column; pattern = pattern_of pattern }

abbrev pub sought : Bool → Bool → List ℕ → Option Condition
sought joined negated text =
    if bytes_eq (after_column text) [] then None
    else Some (condition joined negated (column_at text) (after_column text))

-- `[&] [!] [%FIELD] PATTERN`
abbrev pub condition_of : List ℕ → Option Condition
condition_of text =
    let behind = after_mark 38 text in
    sought (begins text 38) (begins behind exclamation) (after_mark exclamation behind)

-- `if`, or `if` and a pattern
abbrev pub if_form : List ℕ → Option Form
if_form rest =
    if bytes_eq rest [] then Some (forms.If None)
    else if first_is is_white rest then option_map (λ c. forms.If (Some c)) (condition_of (after_white rest))
    else None

-- what a line outside blocks says that begins with a word, of what stands behind the word
abbrev pub form_by : Word → List ℕ → Option Form
form_by words.Skip rest = skip_form rest
form_by words.Separator rest = separator_form rest
form_by words.Fields rest = fields_form rest
form_by words.DateFormat rest = format_form rest
form_by words.NewestFirst rest = alone rest settings.NewestFirst
form_by words.IntradayReversed rest = alone rest settings.IntradayReversed
form_by words.DecimalMark rest = mark_form rest
form_by words.If rest = if_form rest
form_by (words.Field field) rest = assign_form field rest
form_by words.Other rest = None

abbrev pub rule_of : List ℕ → Option Form
rule_of content = form_by (word_of (name_at content)) (after_name content)

abbrev pub ask_of : List ℕ → Option Form
ask_of content = option_map (λ c. forms.Ask c) (condition_of content)

abbrev pub given_for : Option EntryField → List ℕ → Option Form
given_for (Some field) rest = option_map (λ a. forms.Act (actions.Assign a)) (assignment_of field rest)
given_for None rest = None

abbrev pub given_of : List ℕ → Option Form
given_of text = given_for (field_named false (name_at text)) (after_name text)

-- an assignment, `skip` or `end`
abbrev pub act_of : List ℕ → Option Form
act_of text =
    if bytes_eq text (codes "skip") then Some (forms.Act actions.Skip)
    else if bytes_eq text (codes "end") then Some (forms.Act actions.End)
    else given_of text

-- an indented line belongs to the block whose patterns stand before it
abbrev pub indented_form : Stage → List ℕ → Option Form
indented_form stages.Outside content = None
indented_form stages.Opened content = None
indented_form stages.Asking content = act_of (after_white content)
indented_form stages.Acting content = act_of (after_white content)

-- any other line is a rule, or one more pattern of the block that has no assignment yet
abbrev pub plain_form : Stage → List ℕ → Option Form
plain_form stages.Outside content = rule_of content
plain_form stages.Opened content = ask_of content
plain_form stages.Asking content = ask_of content
plain_form stages.Acting content = rule_of content

-- what a line says that stands there; nothing where it isn't of a form
unfoldable pub form_of : Stage → List ℕ → Option Form
form_of stage content =
    if is_ignored content then Some forms.Remark
    else if not (is_utf8 content) then None
    else if is_indented content then indented_form stage content
    else plain_form stage content
