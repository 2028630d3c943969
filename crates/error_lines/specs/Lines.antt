-- The lines that say why a command gives no output.
use Rattle.std.specs.Prelude.{ℕ, List, [], ◌∷◌, ◌++◌, codes}
use Rattle.std.specs.Fmt.{decimal}
use Rattle.hl_base.specs.Ascii.{line_feed}

-- a line with its end
abbrev pub ended : List ℕ → List ℕ
ended line = line ++ (line_feed ∷ [])

-- two texts, each with a number behind it
abbrev pub two_numbers : List ℕ → ℕ → List ℕ → ℕ → List ℕ
two_numbers front number middle last = ended (front ++ decimal number ++ middle ++ decimal last)

-- two texts, each with another one behind it
abbrev pub two_texts : List ℕ → List ℕ → List ℕ → List ℕ → List ℕ
two_texts front text middle last = ended (front ++ text ++ middle ++ last)

-- ---- words

-- no word, or a word that has no place
abbrev pub usage : List ℕ → List ℕ
usage [] = ended (codes "error: usage")
usage (b ∷ bs) = ended (codes "error: usage: " ++ b ∷ bs)

abbrev pub conflict : List ℕ → List ℕ → List ℕ
conflict a b = two_texts (codes "error: usage: ") a (codes " with ") b

abbrev pub bad_term : List ℕ → List ℕ
bad_term word = ended (codes "error: term: " ++ word)

abbrev pub refused_pattern : List ℕ → List ℕ
refused_pattern word = ended (codes "error: pattern: " ++ word)

-- ---- rules and records

abbrev pub bad_rule : ℕ → List ℕ
bad_rule at = ended (codes "error: rule line " ++ decimal at)

abbrev pub refused_rule_pattern : ℕ → List ℕ
refused_rule_pattern at = ended (codes "error: rule pattern line " ++ decimal at)

abbrev pub bad_record : ℕ → List ℕ → List ℕ
bad_record number why = ended (codes "error: record " ++ decimal number ++ why)

abbrev pub in_log : ℕ → List ℕ → List ℕ
in_log at why = ended (codes "error: log line " ++ decimal at ++ why)

-- ---- sizes

abbrev pub out_of_range : List ℕ → List ℕ
out_of_range symbol = ended (codes "error: range: " ++ symbol)

abbrev pub past_limit : ℕ → ℕ → List ℕ
past_limit count limit = two_numbers (codes "error: limit: ") count (codes " of ") limit

abbrev pub full : ℕ → ℕ → List ℕ
full size limit = two_numbers (codes "error: full: ") size (codes " of ") limit

-- ---- files

abbrev pub absent : List ℕ → List ℕ
absent name = ended (codes "error: absent: " ++ name)

abbrev pub not_a_store : ℕ → List ℕ
not_a_store at = ended (codes "error: not a store: " ++ decimal at)

abbrev pub newer : ℕ → List ℕ
newer version = ended (codes "error: newer: " ++ decimal version)

abbrev pub exists : ℕ → List ℕ
exists length = ended (codes "error: exists: " ++ decimal length)

abbrev pub frame_kind : ℕ → List ℕ
frame_kind kind = ended (codes "error: frame: kind " ++ decimal kind)

abbrev pub frame : List ℕ → List ℕ
frame why = ended (codes "error: frame: " ++ why)

-- ---- calls that failed

abbrev pub read_fault : List ℕ
read_fault = ended (codes "error: read fault")

abbrev pub write_fault : List ℕ
write_fault = ended (codes "error: write fault")

abbrev pub disk_fault : List ℕ
disk_fault = ended (codes "error: disk fault")

abbrev pub door_fault : List ℕ
door_fault = ended (codes "error: door fault")

abbrev pub memory : List ℕ
memory = ended (codes "error: memory")

abbrev pub connection : List ℕ
connection = ended (codes "error: connection")

-- ---- edits

abbrev pub forbidden : List ℕ → List ℕ → List ℕ
forbidden need have = two_texts (codes "error: forbidden: need ") need (codes ", have ") have

abbrev pub stale : ℕ → ℕ → List ℕ
stale base current = two_numbers (codes "error: stale: base ") base (codes ", current ") current

abbrev pub bad_base : ℕ → ℕ → List ℕ
bad_base base current = two_numbers (codes "error: bad base: base ") base (codes ", current ") current

abbrev pub no_item : ℕ → ℕ → List ℕ
no_item number count = two_numbers (codes "error: no item ") number (codes " of ") count

abbrev pub not_transactions : ℕ → List ℕ
not_transactions at = ended (codes "error: entry line " ++ decimal at ++ codes ": not a transaction")
