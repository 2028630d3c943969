-- The records of a file, behind the lines that are cut off.
use Rattle.std.specs.Prelude.{ℕ, ◌-◌, ◌==◌, List, [], ◌∷◌, if◌then◌else◌}
use Rattle.std.specs.List.{concat}
use Rattle.csv.specs.Reading.{default_config, records, strip_bom}
use Rattle.csv.specs.declared.parser.Config.{Config}
use Rattle.hl_base.specs.Items.{is_blank}
use Rattle.hl_base.specs.Lines.{lines_of}
use Rattle.csv_rules.specs.declared.kinds.Settings.{Settings}

-- the lines behind the first so many that aren't blank
abbrev pub lines_after : ℕ → List (List ℕ) → List (List ℕ)
lines_after n [] = []
lines_after n (l ∷ ls) =
    if n == 0 then l ∷ ls
    else lines_after (if is_blank l then n else n - 1) ls

-- the text behind the first so many lines that aren't blank
abbrev pub text_after : ℕ → List ℕ → List ℕ
text_after n text = concat (lines_after n (lines_of text))

abbrev pub config_of : ℕ → Config
config_of separator = record default_config { delimiter = separator }

-- the records of a text, each a list of its columns as they are written
abbrev pub rows_of : ℕ → List ℕ → List (List (List ℕ))
rows_of separator text = records (config_of separator) (strip_bom text)

-- those of a file
abbrev pub records_of : Settings → List ℕ → List (List (List ℕ))
records_of settings text = rows_of settings.separator (text_after settings.skipped text)
