use Rattle.std.proofs.Common.{◌≡◌, drop}
use Rattle.std.specs.Str.Parse.{digits_value, digits_value_after}
use Rattle.web_messages.proofs.fields.value_of_digits.Given as goal

-- the digits that are left follow those of the value
abbrev pub invariant-loop-digit : goal.invariant-loop-digit
invariant-loop-digit l = digits_value 10 l.text ≡ digits_value_after 10 l.value (drop l.digit-index l.text)
