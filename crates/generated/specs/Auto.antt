-- The book of a text with the postings that its automated rules add.
use Rattle.std.specs.Prelude.{◌≡◌, ℕ, List, map, length, Option, Result, Ok, Err}
use Rattle.book.specs.declared.item.Book.{Book}
use Rattle.book.specs.declared.item.Placed.{Placed}
use Rattle.book.specs.declared.transaction.Txn.{Txn}
use Rattle.query.specs.Matching.{Own}
use Rattle.query.specs.Types.{declared_of, own_letter}
use Rattle.query_terms.specs.Making.{Stays}
use Rattle.rule_entries.specs.Counted.{excess_over, posting_limit}
use Rattle.generated.specs.Added.{all_added, with_added}
use Rattle.generated.specs.Judged.{judged, unless_too_many}
use Rattle.generated.specs.Rules.{Asked, IsRefusedRule, autos_of, read_rules}
use Rattle.generated.specs.declared.fault.GenFault.{GenFault}
use Rattle.generated.specs.declared.fault.GenFault.TheVariants as gen_fault

-- the letters that the directives among some items declare for accounts
abbrev pub letters_of : List Placed → Own
letters_of items = own_letter (declared_of items)

-- the book of some transactions with what rules add to them
abbrev pub book_with : Own → List Asked → List Txn → Result Book GenFault
book_with own rules txns =
    unless_too_many (excess_over posting_limit (length (all_added own rules txns))) (judged (map (with_added own rules) txns))

abbrev pub book_by : Own → List Txn → Result (List Asked) ℕ → Result Book GenFault
book_by own txns (Ok rules) = book_with own rules txns
book_by own txns (Err line) = Err (gen_fault.BadTerm line)

-- the same with what the automated rules among some items ask for on a day and add; or the first rule that doesn't read
abbrev pub auto_of : ℕ → List Placed → List Txn → Result Book GenFault
auto_of day items txns = book_by (letters_of items) txns (read_rules day (autos_of items))

-- The book with what the automated rules add, or why there is none; or the maker refused a pattern of a rule before which all
-- are read; or want of memory. What the maker tells stays but where it refused a pattern.
abbrev pub Autos : ℕ → List Placed → List Txn → ℕ → ℕ → Option (List ℕ) → Option (List ℕ) → Result Book GenFault → Type 0
Autos day items txns before now last_before last_now (Ok book) =
    (auto_of day items txns ≡ Ok book) × Stays before now last_before last_now
Autos day items txns before now last_before last_now (Err gen_fault.Memory) = Stays before now last_before last_now
Autos day items txns before now last_before last_now (Err (gen_fault.PatternRefused line)) =
    IsRefusedRule day (autos_of items) line before now last_now
Autos day items txns before now last_before last_now (Err fault) =
    (auto_of day items txns ≡ Err fault) × Stays before now last_before last_now
