-- The fields of a record, and of one at a place.
use Rattle.std.proofs.Common.{◌≡◌, ℕ, ◌<◌, ◌≤◌, List, filter, map, get_or, slice_get, length, Some, None, option_map, refl, sym, ap, ◌∙◌}
use Rattle.std.specs.Option.{option_and_then}
use Rattle.std.proofs.lemmas.Option.{slice_get-map, slice_get_past, slice_get_read}
use Rattle.csv.specs.Records.{Row, fields_of}
use Rattle.query_terms.specs.Patterns.{Known}
use Rattle.query_terms.specs.Sought.{known_of}
use Rattle.csv_rules.specs.declared.kinds.Block.{Block}
use Rattle.csv_rules.specs.declared.reading.Rules.{Rules}
use Rattle.csv_entries.specs.Blocks.{applies, applying}
use Rattle.bank_explanations.specs.Parts.{fields_from, fields_in}

pub row_there : (rules : Rules) (rows : List Row) (place : ℕ) (row : Row) → place < length rows → row ≡ get_or rows place row
    → fields_in rules (fields_of row) ≡ fields_from rules (map fields_of rows) place
row_there rules rows place row within is =
    let here : slice_get (map fields_of rows) place ≡ Some (fields_of row)
    = slice_get-map fields_of rows place ∙ ap (option_map fields_of) (slice_get_read rows (length rows) place row refl within is) in
    sym (ap (option_and_then (fields_in rules)) here)

pub row_none : (rules : Rules) (rows : List Row) (place : ℕ) → length rows ≤ place → fields_from rules (map fields_of rows) place ≡ None
row_none rules rows place past =
    ap (option_and_then (fields_in rules)) (slice_get-map fields_of rows place ∙ ap (option_map fields_of) (slice_get_past rows place past))

-- the blocks that apply, in the words of the calls that find them
pub applying_by : (rules : Rules) (columns names : List (List ℕ)) (known : Known) (blocks found : List Block) → known ≡ known_of rules.regexes.items → names ≡ rules.sheet.names
    → blocks ≡ rules.sheet.blocks → found ≡ filter (applies known names columns) blocks → found ≡ applying (known_of rules.regexes.items) rules.sheet columns
applying_by rules columns names known blocks found same all are w =
    w ∙ (ap (λ (k : Known). filter (applies k names columns) blocks) same
    ∙ (ap (λ (ns : List (List ℕ)). filter (applies (known_of rules.regexes.items) ns columns) blocks) all
    ∙ ap (filter (applies (known_of rules.regexes.items) rules.sheet.names columns)) are))
