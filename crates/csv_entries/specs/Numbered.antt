-- The entries of numbered records.
use Rattle.std.specs.Prelude.{ℕ, Bool, true, false, not, List, [], ◌∷◌, ◌++◌, map, drop, Result, Ok, Err, if◌then◌else◌}
use Rattle.std.specs.List.{enumerate_from, list_all, prefix_len, take_while}
use Rattle.std.specs.Str.{is_utf8}
use Rattle.query_terms.specs.Patterns.{Known}
use Rattle.book.specs.declared.transaction.Txn.{Txn}
use Rattle.csv_rules.specs.declared.kinds.Sheet.{Sheet}
use Rattle.csv_entries.specs.Judging.{outcome}
use Rattle.csv_entries.specs.declared.faults.ConvertFault.{ConvertFault}
use Rattle.csv_entries.specs.declared.faults.ConvertFault.TheVariants as faults
use Rattle.csv_entries.specs.declared.judging.Outcome.{Outcome}
use Rattle.csv_entries.specs.declared.judging.Outcome.TheVariants as outcomes

-- a record and its number
abbrev pub Numbered_record : Type 0
Numbered_record = ℕ × List (List ℕ)

abbrev pub Entries : Type 0
Entries = Result (List Txn) ConvertFault

-- the entries of a record: one, or none where it is left out
abbrev pub txns_of : Outcome → List Txn
txns_of (outcomes.Entry txn) = txn ∷ []
txns_of outcomes.LeftOut = []
txns_of outcomes.Ends = []

abbrev pub entries_by : Result Outcome ConvertFault → Entries
entries_by (Ok o) = Ok (txns_of o)
entries_by (Err fault) = Err fault

abbrev pub entries_in : Known → Sheet → Numbered_record → Entries
entries_in known sheet r = entries_by (outcome known sheet r.0 r.1)

-- a record behind the last that counts has none, and its columns are UTF-8
abbrev pub none_in : Numbered_record → Entries
none_in r = if list_all is_utf8 r.1 then Ok [] else Err (faults.CsvRefused r.0)

abbrev pub ends : Outcome → Bool
ends outcomes.Ends = true
ends outcomes.LeftOut = false
ends (outcomes.Entry txn) = false

abbrev pub is_end : Result Outcome ConvertFault → Bool
is_end (Ok o) = ends o
is_end (Err fault) = false

-- no block ends the entries at this record
abbrev pub counts : Known → Sheet → Numbered_record → Bool
counts known sheet r = not (is_end (outcome known sheet r.0 r.1))

abbrev pub behind : List Txn → Entries → Entries
behind ts (Ok us) = Ok (ts ++ us)
behind ts (Err fault) = Err fault

abbrev pub then_all : Entries → Entries → Entries
then_all (Ok ts) rest = behind ts rest
then_all (Err fault) rest = Err fault

-- all entries in order; the first refusal decides
abbrev pub gathered : List Entries → Entries
gathered [] = Ok []
gathered (r ∷ rs) = then_all r (gathered rs)

-- those of the records before the first at which a block ends the entries, while all records are looked at
abbrev pub entries_of : Known → Sheet → List Numbered_record → Entries
entries_of known sheet rows =
    gathered (map (entries_in known sheet) (take_while (counts known sheet) rows)
    ++ map none_in (drop (prefix_len (counts known sheet) rows) rows))

-- records that are counted from a number on, and are only looked at
abbrev pub none_from : ℕ → List (List (List ℕ)) → Entries
none_from n rows = gathered (map none_in (enumerate_from n rows))

-- those of records that are counted from a number on
abbrev pub entries_from : Known → Sheet → ℕ → List (List (List ℕ)) → Entries
entries_from known sheet n rows = entries_of known sheet (enumerate_from n rows)
