use Rattle.std.proofs.Common.{◌≡◌, ◌+◌, ◌*◌, ◌^◌, drop, arith, rules}
use Rattle.std.proofs.lemmas.Grind.{common_steps}
use Rattle.std.specs.Str.Parse.{digits_value, digits_value_after}
use Rattle.web_messages.proofs.FieldLemmas.{grows, past}
use Rattle.web_messages.proofs.fields.value_of_digits.Goals as goal

pub returns-then-value-units : goal.returns-then-value-units
returns-then-value-units c =
    let text = c.args.text.now in
    let value = c.loop-digit.value in
    let units = c.from-units.result in
    let e : digits_value 10 text ≡ digits_value_after 10 (value * 10 + units) (drop (c.loop-digit.digit-index + 1) text) =
    first_of (search rules, grind (arith, common_steps)) in
    past (digits_value 10 text) (2 ^ 64) (omega (arith, e, grows (value * 10 + units) (drop (c.loop-digit.digit-index + 1) text)))
