-- The line of a file on which a record begins.
use Rattle.std.specs.Prelude.{ℕ, ◌+◌, ◌-◌, ◌==◌, nat_eq, nat_lt, Bool, List, [], ◌∷◌, ◌++◌, length, if◌then◌else◌}
use Rattle.std.specs.List.{concat, filter, starts_with}
use Rattle.csv.specs.Reading.{records, strip_bom}
use Rattle.csv_entries.specs.Records.{config_of, text_after}
use Rattle.csv_rules.specs.declared.kinds.Settings.{Settings}
use Rattle.hl_base.specs.Ascii.{line_feed}
use Rattle.hl_base.specs.Lines.{lines_of}

abbrev pub begins_with : List ℕ → List ℕ → Bool
begins_with text front = starts_with nat_eq text front

-- a byte order mark is EF BB BF
abbrev pub begins_mark : List ℕ → Bool
begins_mark text = begins_with text (239 ∷ 187 ∷ 191 ∷ [])

-- how many records a text has
abbrev pub count_of : ℕ → List ℕ → ℕ
count_of separator text = length (records (config_of separator) text)

-- The lines from the one on in which a record begins: with each line before it, the text has fewer records.
abbrev pub lines_from : ℕ → ℕ → List ℕ → List (List ℕ) → List (List ℕ)
lines_from separator n earlier [] = []
lines_from separator n earlier (l ∷ ls) =
    if nat_lt (count_of separator (earlier ++ l)) n then lines_from separator n (earlier ++ l) ls else l ∷ ls

-- the text from that line on
abbrev pub text_from : ℕ → ℕ → List ℕ → List ℕ
text_from separator n text = concat (lines_from separator n [] (lines_of text))

-- the same of a file, behind the lines that are cut off
unfoldable pub record_text : Settings → ℕ → List ℕ → List ℕ
record_text settings n text = text_from settings.separator n (strip_bom (text_after settings.skipped text))

abbrev pub line_ends : List ℕ → ℕ
line_ends text = length (filter (λ b. b == line_feed) text)

-- the number of the line with which the rest of a file begins
abbrev pub number_before : List ℕ → List ℕ → ℕ
number_before text rest = line_ends text - line_ends rest + 1
