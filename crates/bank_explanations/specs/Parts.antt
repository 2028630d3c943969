-- The field for which a record is refused.
use Rattle.std.specs.Prelude.{ℕ, ◌-◌, ◌==◌, Bool, true, not, ◌&&◌, ◌||◌, List, [], ◌∷◌, length, slice_get, Option, Some, None, option_map, is_some}
use Rattle.std.specs.List.{find}
use Rattle.std.specs.Option.{option_and_then}
use Rattle.book.specs.declared.amount.Amount.{Amount}
use Rattle.entry_reader.specs.Accounts.{account_alone}
use Rattle.entry_reader.specs.Contexts.{Context}
use Rattle.query_terms.specs.Reading.{status_of}
use Rattle.query_terms.specs.Sought.{known_of}
use Rattle.csv_rules.specs.declared.kinds.EntryField.{EntryField}
use Rattle.csv_rules.specs.declared.kinds.EntryField.TheVariants as fields
use Rattle.csv_rules.specs.declared.reading.Rules.{Rules}
use Rattle.csv_entries.specs.Amounts.{amount_of, context, in_currency, in_ok}
use Rattle.csv_entries.specs.Blocks.{applying, fields_for}
use Rattle.csv_entries.specs.Judging.{columns_of}
use Rattle.csv_entries.specs.Records.{records_of}
use Rattle.csv_entries.specs.declared.faults.ConvertFault.{ConvertFault}
use Rattle.csv_entries.specs.declared.faults.ConvertFault.TheVariants as faults
use Rattle.csv_entries.specs.declared.fields.Fields.{Fields}
use Rattle.bank_explanations.specs.declared.parts.Part.{Part}

-- ---- the fields of a record

abbrev pub fields_by : Rules → List (List ℕ) → Fields
fields_by rules columns = fields_for rules.sheet columns (applying (known_of rules.regexes.items) rules.sheet columns)

abbrev pub fields_in : Rules → List (List ℕ) → Option Fields
fields_in rules row = option_map (fields_by rules) (columns_of row)

-- those of the record at a place among some
abbrev pub fields_from : Rules → List (List (List ℕ)) → ℕ → Option Fields
fields_from rules rows place = option_and_then (fields_in rules) (slice_get rows place)

-- what the fields of a record of a file are given, where there is such a record and its columns are UTF-8
abbrev pub fields_at : Rules → List ℕ → ℕ → Option Fields
fields_at rules text n = fields_from rules (records_of rules.sheet.settings text) (n - 1)

-- what a field is given
abbrev pub text_in : Fields → EntryField → List ℕ
text_in g fields.Date = g.date
text_in g fields.Status = g.status
text_in g fields.Code = g.code
text_in g fields.Description = g.description
text_in g fields.Comment = g.comment
text_in g fields.Account1 = g.account1
text_in g fields.Account2 = g.account2
text_in g fields.Amount = g.amount
text_in g fields.AmountIn = g.amount_in
text_in g fields.AmountOut = g.amount_out
text_in g fields.Amount2 = g.amount2
text_in g fields.Currency = g.currency

-- ---- the field that isn't valid

abbrev pub is_empty : List ℕ → Bool
is_empty text = length text == 0

-- it is empty or reads as an amount
abbrev pub is_amount : Context → List ℕ → Bool
is_amount before text = is_empty text || is_some (amount_of before text)

-- it is empty or reads as an account
abbrev pub is_account : List ℕ → Bool
is_account text = is_empty text || is_some (in_ok (account_alone text))

-- the amount can have the currency
abbrev pub can_have : List ℕ → Amount → Bool
can_have currency a = is_some (in_currency currency a)

abbrev pub fits_amount : List ℕ → Option Amount → Bool
fits_amount currency (Some a) = can_have currency a
fits_amount currency None = true

-- the amount that a text writes, if it writes one, can have the currency
abbrev pub fits : Context → List ℕ → List ℕ → Bool
fits before currency text = fits_amount currency (amount_of before text)

-- each amount that reads can have the currency
abbrev pub fits_all : Context → Fields → Bool
fits_all before g =
    fits before g.currency g.amount && fits before g.currency g.amount_in && fits before g.currency g.amount_out
    && fits before g.currency g.amount2

abbrev pub is_valid : Context → Fields → EntryField → Bool
is_valid before g fields.Status = is_some (status_of g.status)
is_valid before g fields.Amount = is_amount before g.amount
is_valid before g fields.AmountIn = is_amount before g.amount_in
is_valid before g fields.AmountOut = is_amount before g.amount_out
is_valid before g fields.Amount2 = is_amount before g.amount2
is_valid before g fields.Currency = fits_all before g
is_valid before g fields.Account1 = is_account g.account1
is_valid before g fields.Account2 = is_account g.account2
is_valid before g _ = true

-- the fields that are judged, in their order
abbrev pub judged_fields : List EntryField
judged_fields =
    fields.Status ∷ fields.Amount ∷ fields.AmountIn ∷ fields.AmountOut ∷ fields.Currency ∷ fields.Amount2
    ∷ fields.Account1 ∷ fields.Account2 ∷ []

abbrev pub first_bad : Context → Fields → List EntryField → Option EntryField
first_bad before g judged = find (λ f. not (is_valid before g f)) judged

-- the first that isn't valid
abbrev pub bad_field : Context → Fields → Option EntryField
bad_field before g = first_bad before g judged_fields

-- ---- the field that is shown

abbrev pub part_of : Fields → EntryField → Part
part_of g field = record { field = field; text = text_in g field }

abbrev pub bad_part : Context → Fields → Option Part
bad_part before g = option_map (part_of g) (bad_field before g)

-- the same, where a file has this decimal mark
abbrev pub bad_by : Option ℕ → Fields → Option Part
bad_by mark g = bad_part (context mark) g

abbrev pub bad_of : Option ℕ → Option Fields → Option Part
bad_of mark g = option_and_then (bad_by mark) g

abbrev pub date_part : Fields → Part
date_part g = part_of g fields.Date

-- The field for which a record is refused, and what it is given; none where the cause isn't about one.
abbrev pub part_for : Rules → List ℕ → ConvertFault → Option Part
part_for rules text (faults.NoDate n) = option_map date_part (fields_at rules text n)
part_for rules text (faults.BadRecord n) = bad_of rules.sheet.settings.mark (fields_at rules text n)
part_for rules text (faults.NoAmount n) = None
part_for rules text (faults.TwoAmounts n) = None
part_for rules text (faults.CsvRefused n) = None
part_for rules text faults.Memory = None
