-- The entries of a file hang on what the patterns of its rules find, and not on the regexes.
use Rattle.std.proofs.Common.{◌≡◌, ℕ, not, List, Option, Some, None, refl, ap}
use Rattle.std.proofs.Common.{map, ◌++◌, drop}
use Rattle.std.specs.List.{enumerate_from, filter, prefix_len, take_while}
use Rattle.query_terms.specs.Patterns.{Known, finds, is_found, re_of}
use Rattle.query_terms.specs.declared.kinds.Pattern.{Pattern}
use Rattle.query_terms.specs.declared.kinds.Pattern.TheVariants as patterns
use Rattle.csv_rules.specs.declared.kinds.Block.{Block}
use Rattle.csv_rules.specs.declared.kinds.Condition.{Condition}
use Rattle.csv_rules.specs.declared.kinds.Sheet.{Sheet}
use Rattle.csv_entries.specs.Blocks.{applies, applying, holds, holds_by, looked_at, some_group}
use Rattle.csv_entries.specs.Conversion.{conversion, ordered}
use Rattle.csv_entries.specs.Judging.{columns_of, outcome, outcome_by, outcome_in}
use Rattle.csv_entries.specs.Numbered.{Numbered_record, counts, entries_by, entries_in, entries_of, gathered, is_end, none_in}
use Rattle.csv_entries.specs.Records.{records_of}

module _ (a b : Known) (same : (source text : List ℕ) → is_found (re_of a source) text ≡ is_found (re_of b source) text) where
  finds_same : (p : Pattern) (text : List ℕ) → finds a p text ≡ finds b p text
  finds_same (patterns.Word word) text = refl
  finds_same (patterns.Special source) text = same source text

  holds_same : (names columns : List (List ℕ)) (c : Condition) → holds a names columns c ≡ holds b names columns c
  holds_same names columns c = ap (holds_by c.negated) (finds_same c.pattern (looked_at c.column names columns))

  applies_same : (names columns : List (List ℕ)) (block : Block) → applies a names columns block ≡ applies b names columns block
  applies_same names columns block = λ i. some_group (λ c. (holds_same names columns c) i) block.conditions

  applying_same : (sheet : Sheet) (columns : List (List ℕ)) → applying a sheet columns ≡ applying b sheet columns
  applying_same sheet columns = λ i. filter (λ block. (applies_same sheet.names columns block) i) sheet.blocks

  judged_same : (sheet : Sheet) (n : ℕ) (columns : Option (List (List ℕ))) → outcome_in a sheet n columns ≡ outcome_in b sheet n columns
  judged_same sheet n None = refl
  judged_same sheet n (Some columns) = ap (outcome_by n sheet columns) (applying_same sheet columns)

  outcome_same : (sheet : Sheet) (n : ℕ) (written : List (List ℕ)) → outcome a sheet n written ≡ outcome b sheet n written
  outcome_same sheet n written = judged_same sheet n (columns_of written)

  entries_same : (sheet : Sheet) (r : Numbered_record) → entries_in a sheet r ≡ entries_in b sheet r
  entries_same sheet r = ap entries_by (outcome_same sheet r.0 r.1)

  counts_same : (sheet : Sheet) (r : Numbered_record) → counts a sheet r ≡ counts b sheet r
  counts_same sheet r = λ i. not (is_end ((outcome_same sheet r.0 r.1) i))

  all_same : (sheet : Sheet) (rows : List Numbered_record) → entries_of a sheet rows ≡ entries_of b sheet rows
  all_same sheet rows = λ i.
      gathered (map (λ r. (entries_same sheet r) i) (take_while (λ r. (counts_same sheet r) i) rows)
      ++ map none_in (drop (prefix_len (λ r. (counts_same sheet r) i) rows) rows))

  -- what finds the same makes the same entries
  pub conversion_same : (sheet : Sheet) (text : List ℕ) → conversion a sheet text ≡ conversion b sheet text
  conversion_same sheet text = ap (ordered sheet.settings) (all_same sheet (enumerate_from 1 (records_of sheet.settings text)))
