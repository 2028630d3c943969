-- How dates are written, as `date-format` says.
use Rattle.std.specs.Prelude.{ℕ, Bool, true, false, ◌==◌, List, [], ◌∷◌, Option, Some, None, option_map, if◌then◌else◌}
use Rattle.hl_base.specs.Ascii.{minus, percent}
use Rattle.csv_rules.specs.declared.kinds.DatePart.{DatePart}
use Rattle.csv_rules.specs.declared.kinds.DatePart.TheVariants as parts
use Rattle.csv_rules.specs.declared.formats.Before.{Before}
use Rattle.csv_rules.specs.declared.formats.Before.TheVariants as before
use Rattle.csv_rules.specs.declared.formats.Next.{Next}
use Rattle.csv_rules.specs.declared.formats.Next.TheVariants as next

-- the part that a letter behind `%` stands for
abbrev pub part_named : ℕ → Option DatePart
part_named b =
    if b == 89 then Some parts.Year
    else if b == 121 then Some parts.ShortYear
    else if b == 109 then Some parts.Month
    else if b == 98 then Some parts.MonthName
    else if b == 100 then Some parts.Day
    else if b == percent then Some (parts.Byte b)
    else None

-- the part that a letter behind `%-` stands for
abbrev pub short_part : ℕ → Option DatePart
short_part b = if b == 109 then Some parts.Month else if b == 100 then Some parts.Day else None

abbrev pub known : Option DatePart → Next
known (Some part) = next.Part part
known None = next.Unknown

-- what a byte says behind others
abbrev pub next_part : Before → ℕ → Next
next_part before.Nothing b = if b == percent then next.More before.Percent else next.Part (parts.Byte b)
next_part before.Percent b = if b == minus then next.More before.Dash else known (part_named b)
next_part before.Dash b = known (short_part b)

abbrev pub is_done : Before → Bool
is_done before.Nothing = true
is_done before.Percent = false
is_done before.Dash = false

-- the parts of the bytes after a byte, of which one said so much
abbrev pub with_next : Next → (Before → Option (List DatePart)) → Option (List DatePart)
with_next (next.More b) rest = rest b
with_next (next.Part part) rest = option_map (λ parts. part ∷ parts) (rest before.Nothing)
with_next next.Unknown rest = None

-- The parts of a date from a place in the format on. A `%` begins a part, alone or with a `-` behind it, and every other byte
-- stands for itself.
abbrev pub format_from : Before → List ℕ → Option (List DatePart)
format_from b [] = if is_done b then Some [] else None
format_from b (c ∷ cs) = with_next (next_part b c) (λ n. format_from n cs)

abbrev pub format_of : List ℕ → Option (List DatePart)
format_of text = format_from before.Nothing text
