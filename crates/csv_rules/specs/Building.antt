-- The sources for which a file of rules needs regexes.
use Rattle.std.specs.Prelude.{◌++◌, ℕ, List, [], Option, Some, None}
use Rattle.std.specs.List.{flat_map}
pub use Rattle.query_terms.specs.Building.{AreBuilt, Grows, IsCaseless, IsOneOf, IsRefusalOf, TellsOf}
use Rattle.query_terms.specs.Reading.{source_of}
use Rattle.csv_rules.specs.Drafts.{Progress}
use Rattle.csv_rules.specs.declared.forms.Form.{Form}
use Rattle.csv_rules.specs.declared.forms.Form.TheVariants as forms
use Rattle.csv_rules.specs.declared.kinds.Block.{Block}
use Rattle.csv_rules.specs.declared.kinds.Condition.{Condition}
use Rattle.csv_rules.specs.declared.kinds.Sheet.{Sheet}

-- the sources for which conditions need regexes, in order
abbrev pub condition_sources : List Condition → List (List ℕ)
condition_sources conditions = flat_map (λ c. source_of c.pattern) conditions

abbrev pub block_sources : List Block → List (List ℕ)
block_sources blocks = flat_map (λ b. condition_sources b.conditions) blocks

-- those of a sheet
abbrev pub sheet_sources : Sheet → List (List ℕ)
sheet_sources sheet = block_sources sheet.blocks

-- those of the lines so far
abbrev pub progress_sources : Progress → List (List ℕ)
progress_sources p = block_sources p.blocks ++ condition_sources p.conditions

abbrev pub first_sources : Option Condition → List (List ℕ)
first_sources (Some c) = source_of c.pattern
first_sources None = []

-- the source for which a line needs a regex, if it needs one
abbrev pub form_sources : Form → List (List ℕ)
form_sources (forms.If condition) = first_sources condition
form_sources (forms.Ask condition) = source_of condition.pattern
form_sources _ = []
