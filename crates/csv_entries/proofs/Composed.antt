-- The entries of a file from those of its records.
use Rattle.std.proofs.Common.{◌≡◌, ℕ, List, Option, Some, None, IfSome, map, Ok, Err, refl, sym, ap, ◌∙◌}
use Rattle.csv.specs.Records.{Row, fields_of}
use Rattle.query_terms.specs.Patterns.{Known}
use Rattle.query_terms.specs.Sought.{known_of}
use Rattle.book.specs.declared.transaction.Txn.{Txn}
use Rattle.csv_rules.specs.declared.reading.Rules.{Rules}
use Rattle.csv_entries.specs.Conversion.{ordered, conversion_by}
use Rattle.csv_entries.specs.Numbered.{Entries, entries_from}
use Rattle.csv_entries.specs.Ordering.{in_order}
use Rattle.csv_entries.specs.Records.{rows_of, text_after}
use Rattle.csv_entries.specs.declared.faults.ConvertFault.{ConvertFault}

-- the conversion in the words of the calls that make it
pub steps : (rules : Rules) (text rest : List ℕ) (known : Known) (rows : List Row) → rest ≡ text_after rules.sheet.settings.skipped text
    → map fields_of rows ≡ rows_of rules.sheet.settings.separator rest → known ≡ known_of rules.regexes.items
    → conversion_by rules text ≡ ordered rules.sheet.settings (entries_from known rules.sheet 1 (map fields_of rows))
steps rules text rest known rows cut made same = rw (made, cut, same) refl

pub converted : (rules : Rules) (text rest : List ℕ) (known : Known) (rows : List Row) (us ts : List Txn) → rest ≡ text_after rules.sheet.settings.skipped text
    → map fields_of rows ≡ rows_of rules.sheet.settings.separator rest → known ≡ known_of rules.regexes.items
    → entries_from known rules.sheet 1 (map fields_of rows) ≡ Ok us → ts ≡ in_order rules.sheet.settings us → conversion_by rules text ≡ Ok ts
converted rules text rest known rows us ts cut made same entries is =
    steps rules text rest known rows cut made same ∙ ap (ordered rules.sheet.settings) entries ∙ ap (λ x. Ok x) (sym is)

refused_by : (rules : Rules) (made all : Entries) (cause : Option ConvertFault) → all ≡ ordered rules.sheet.settings made → IfSome cause (λ f. made ≡ Err f) → IfSome cause (λ f. all ≡ Err f)
refused_by rules made all (Some f) e h = e ∙ ap (ordered rules.sheet.settings) h
refused_by rules made all None e h = h

pub refused : (rules : Rules) (text rest : List ℕ) (known : Known) (rows : List Row) (cause : Option ConvertFault) → rest ≡ text_after rules.sheet.settings.skipped text
    → map fields_of rows ≡ rows_of rules.sheet.settings.separator rest → known ≡ known_of rules.regexes.items
    → IfSome cause (λ f. entries_from known rules.sheet 1 (map fields_of rows) ≡ Err f) → IfSome cause (λ f. conversion_by rules text ≡ Err f)
refused rules text rest known rows cause cut made same h =
    refused_by rules (entries_from known rules.sheet 1 (map fields_of rows)) (conversion_by rules text) cause (steps rules text rest known rows cut made same) h
