-- Numbers as words write them, and the limit of a store.
use Rattle.std.specs.Prelude.{ℕ, ◌-◌, ◌^◌, min, ◌&&◌, nat_le, List, Bool, false, Option, Some, None, if◌then◌else◌, ◌==◌, [], ◌∷◌, codes}
use Rattle.std.specs.List.{list_all}
use Rattle.std.specs.Str.{bytes_eq}
use Rattle.std.specs.Str.Parse.{digits_value}
use Rattle.hl_base.specs.Ascii.{digit_zero}
use Rattle.hl_num.specs.Reading.{is_digit, most}

abbrev pub number_within : ℕ → ℕ → Option ℕ
number_within greatest number = if nat_le 1 number && nat_le number greatest then Some number else None

-- the number of a text of digits alone, from 1 to a greatest one
abbrev pub digits_in : ℕ → List ℕ → Option ℕ
digits_in greatest text = if list_all is_digit text then number_within greatest (min (digits_value 10 text) most) else None

abbrev pub begins_with_zero : List ℕ → Bool
begins_with_zero [] = false
begins_with_zero (byte ∷ bytes) = byte == digit_zero

-- the number that a text writes: digits of which the first isn't 0, from 1 to a greatest one
abbrev pub number_in : ℕ → List ℕ → Option ℕ
number_in greatest text = if begins_with_zero text then None else digits_in greatest text

-- the greatest limit of a store, which is its limit where none is written: 2^40 bytes
abbrev pub most_limit : ℕ
most_limit = 1099511627776

-- the limit that a text writes
abbrev pub limit_in : List ℕ → Option ℕ
limit_in text = number_in most_limit text

-- the greatest revision of a store
abbrev pub last_revision : ℕ
last_revision = 4611686018427387904

-- the revision that a text writes: 0, or a number
abbrev pub base_in : List ℕ → Option ℕ
base_in text = if bytes_eq text (codes "0") then Some 0 else number_in last_revision text

-- the most entries of a sample
abbrev pub most_entries : ℕ
most_entries = 100000
