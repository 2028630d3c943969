-- Whether two fields are the same.
use Rattle.std.specs.Prelude.{ℕ, Bool, ◌==◌}
use Rattle.csv_rules.specs.declared.kinds.EntryField.{EntryField}
use Rattle.csv_rules.specs.declared.kinds.EntryField.TheVariants as fields

-- a field's place among all
abbrev pub place_of : EntryField → ℕ
place_of fields.Date = 0
place_of fields.Status = 1
place_of fields.Code = 2
place_of fields.Description = 3
place_of fields.Comment = 4
place_of fields.Account1 = 5
place_of fields.Account2 = 6
place_of fields.Amount = 7
place_of fields.AmountIn = 8
place_of fields.AmountOut = 9
place_of fields.Amount2 = 10
place_of fields.Currency = 11

abbrev pub is_field : EntryField → EntryField → Bool
is_field a b = place_of a == place_of b
