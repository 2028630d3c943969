-- What the fields of a head say of its message. A field is seen as its name and its value.
use Rattle.std.specs.Prelude.{ℕ, ◌^◌, ◌||◌, ◌&&◌, Bool, true, false, List, [], ◌∷◌, map, filter, ◌==◌, nat_lt, Option, Some, None, if◌then◌else◌, codes}
use Rattle.std.specs.List.{list_any, list_all, slice_split}
use Rattle.std.specs.Char.{to_ascii_lowercase, is_ascii_digit}
use Rattle.std.specs.Str.{bytes_eq}
use Rattle.std.specs.Str.Parse.{digits_value}
use Rattle.hl_base.specs.Ascii.{comma, digit_zero, space, tab}
use Rattle.httparse.specs.Grammar.{RequestHead}
use Rattle.httparse.specs.Spans.{name_and_value}

abbrev pub content_length : List ℕ
content_length = codes "content-length"

abbrev pub transfer_encoding : List ℕ
transfer_encoding = codes "transfer-encoding"

abbrev pub connection : List ℕ
connection = codes "connection"

abbrev pub close : List ℕ
close = codes "close"

-- the text is this word, given in lower case, in whatever case
abbrev pub is_word : List ℕ → List ℕ → Bool
is_word word text = bytes_eq (map to_ascii_lowercase text) word

-- the values of the fields of a name, in order
abbrev pub values_of : List ℕ → List (List ℕ × List ℕ) → List (List ℕ)
values_of name fields = map (λ field. field.1) (filter (λ field. is_word name field.0) fields)

-- no leading zero stands before other digits
abbrev pub starts_well : List ℕ → Bool
starts_well [] = false
starts_well (d ∷ []) = true
starts_well (d ∷ e ∷ ds) = nat_lt digit_zero d

-- decimal digits without a leading zero
abbrev pub is_number : List ℕ → Bool
is_number text = starts_well text && list_all is_ascii_digit text

-- the number that a text is, if it is one below 2^64
abbrev pub number_of : List ℕ → Option ℕ
number_of text = if is_number text && nat_lt (digits_value 10 text) (2 ^ 64) then Some (digits_value 10 text) else None

-- the length that the fields Content-Length say: none is 0, and two say nothing
abbrev pub said_by : List (List ℕ) → Option ℕ
said_by [] = Some 0
said_by (value ∷ []) = number_of value
said_by (value ∷ next ∷ values) = None

abbrev pub unless_coded : List (List ℕ) → Option ℕ → Option ℕ
unless_coded [] said = said
unless_coded (coding ∷ codings) said = None

-- How long the body is. None where a Transfer-Encoding stands, or where the length isn't one number below 2^64.
abbrev pub body_length : List (List ℕ × List ℕ) → Option ℕ
body_length fields = unless_coded (values_of transfer_encoding fields) (said_by (values_of content_length fields))

-- what stands between the words of a field Connection: a comma, a space or a tab
abbrev pub is_between : ℕ → Bool
is_between b = b == comma || b == space || b == tab

-- the word close is among the words of a value
abbrev pub has_close : List ℕ → Bool
has_close value = list_any (is_word close) (slice_split is_between value)

-- a field Connection has the word close
abbrev pub says_close : List (List ℕ × List ℕ) → Bool
says_close fields = list_any has_close (values_of connection fields)

abbrev pub fields_of : RequestHead → List (List ℕ × List ℕ)
fields_of h = map name_and_value h.fields

-- the connection closes after the reply: HTTP/1.0, or the sender says so
abbrev pub closes : RequestHead → Bool
closes h = h.minor == 0 || says_close (fields_of h)
