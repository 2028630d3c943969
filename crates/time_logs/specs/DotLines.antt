-- The lines of a timedot text.
use Rattle.std.specs.Prelude.{ℕ, Bool, true, false, ◌||◌, ◌==◌, List, [], ◌∷◌, drop, Option, Some, None, if◌then◌else◌}
use Rattle.std.specs.List.{prefix_len}
use Rattle.std.specs.Str.{bytes_eq}
use Rattle.hl_base.specs.Ascii.{space, hash, asterisk}
use Rattle.hl_base.specs.Items.{is_white}
use Rattle.entry_reader.specs.Lines.{before_byte, after_byte, after_white, first_is}
use Rattle.time_logs.specs.Moments.{day_of, ◌>>=◌}
use Rattle.time_logs.specs.Quantities.{quantity_of}
use Rattle.time_logs.specs.Said.{said, begins, begins_gap, account_said, account_front, after_account, description_said}
use Rattle.time_logs.specs.declared.dot_line.DotLine.{DotLine}
use Rattle.time_logs.specs.declared.dot_line.DotLine.TheVariants as lines

-- a line of a day: the day, and a description after a space
unfoldable pub day_line : List ℕ → Option DotLine
day_line words =
    day_of (before_byte space words) >>= λ day.
    description_said (after_byte space words) >>= λ description.
    Some (lines.Head day description)

-- a line of a quantity: an account, two spaces, and the quantity
unfoldable pub quantity_line : List ℕ → Option DotLine
quantity_line words =
    if begins_gap (after_account words)
    then (account_said (account_front words) >>= λ account.
    quantity_of (after_white (after_account words)) >>= λ hours.
    Some (lines.Spent account hours))
    else None

-- quantities stand after a day
unfoldable pub quantity_behind : Bool → List ℕ → Option DotLine
quantity_behind begun words = if begun then quantity_line words else None

abbrev pub or_else : Option DotLine → Option DotLine → Option DotLine
or_else None other = other
or_else (Some line) other = Some line

-- what the words of a line say
unfoldable pub plain_line : Bool → List ℕ → Option DotLine
plain_line begun words = or_else (day_line words) (quantity_behind begun words)

-- how many stars a text begins with
abbrev pub stars : List ℕ → ℕ
stars text = prefix_len (λ b. b == asterisk) text

-- what follows the stars at the front of a line
abbrev pub after_stars : List ℕ → List ℕ
after_stars words = drop (stars words) words

-- Words behind stars and white space count where they are of a form; any other line that begins with stars says nothing.
unfoldable pub starred_line : Bool → List ℕ → Option DotLine
starred_line begun words =
    if first_is is_white (after_stars words)
    then or_else (plain_line begun (after_white (after_stars words))) (Some lines.Gap)
    else Some lines.Gap

-- What a line says, if it is of a form: blank lines and remarks say nothing.
unfoldable pub dot_line : Bool → List ℕ → Option DotLine
dot_line begun content =
    let words = said content in
    if bytes_eq words [] || begins words hash then Some lines.Gap
    else if begins words asterisk then starred_line begun words
    else plain_line begun words
