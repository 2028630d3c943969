-- What a dry run of an import says of its rules.
use Rattle.std.specs.Prelude.{ℕ, List, [], ◌++◌, codes}
use Rattle.std.specs.Fmt.{decimal}
use Rattle.std.specs.List.{flat_map}
use Rattle.error_lines.specs.Lines.{ended}
use Rattle.csv_rules.specs.References.{unknown_columns}
use Rattle.csv_rules.specs.declared.references.Reference.{Reference}
use Rattle.desk.specs.declared.request.Request.{Request}
use Rattle.desk.specs.declared.request.Request.TheVariants as request

-- a line of rules refers to a column that there isn't
abbrev pub notice_line : Reference → List ℕ
notice_line r = ended (codes "note: rule line " ++ decimal r.line ++ codes ": no column " ++ r.name)

-- a line for each column that rules refer to and don't name
abbrev pub rule_notices : List ℕ → List ℕ
rule_notices rules = flat_map notice_line (unknown_columns rules)

-- the notices of an import; other requests have none
abbrev pub notices_of : Request → List ℕ
notices_of (request.Import name rules csv) = rule_notices rules
notices_of _ = []
