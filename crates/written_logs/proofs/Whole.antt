-- The text that is written of a log loads, and gives what was written.
use Rattle.std.proofs.Common.{◌≡◌, ℕ, ◌*◌, ◌^◌, ◌<◌, ◌≤◌, List, [], ◌∷◌, ◌++◌, length, map, Option, Result, Ok, sym, ap, subst, ◌∙◌, arith}
use Rattle.std.specs.List.{AllByRecursion}
use Rattle.std.proofs.Math.Nat.{suc-mul}
use Rattle.book.specs.declared.fault.Fault.{Fault}
use Rattle.book.specs.declared.item.Book.{Book}
use Rattle.book.specs.declared.item.Placed.{Placed}
use Rattle.book.specs.declared.transaction.Txn.{Txn}
use Rattle.book.specs.Postings.{txns_of}
use Rattle.entry_reader.specs.Causes.{◌>>=◌}
use Rattle.balancing.specs.Load.{load}
use Rattle.balancing.specs.Solves.{Solves}
use Rattle.journal_printer.specs.declared.detail.Detail.{Detail}
use Rattle.journal_printer.specs.Texts.{Shaping}
use Rattle.journal_reader.specs.Items.{items_in}
use Rattle.written_logs.specs.Plain.{Spent, IsSpent, Entry, entry_txn, IsEntry, ArePlain}
use Rattle.written_logs.specs.Written.{IsOwn, journal_of, numbered, AreShort, Reads, Loads}
use Rattle.written_logs.proofs.Checked.{spent_sum, all_spent, solve, relined, relined_is, relined_total}
use Rattle.written_logs.proofs.Cuts.{size, journal_is, placed, txns_are, reads}
use Rattle.written_logs.proofs.Entries.{txn_is}

short_entries : (shape : Shaping) (detail : Detail) (es : List Entry) → IsOwn shape → AreShort shape detail (map entry_txn es) → AllByRecursion (λ e. size e ≤ 65536) es
short_entries shape detail [] own short = tt
short_entries shape detail (e ∷ es) own short =
    (subst (λ (xs : List ℕ). length xs ≤ 65536) (txn_is shape detail e own) short.0, short_entries shape detail es own short.1)

sum_bound : (ss : List Spent) → AllByRecursion IsSpent ss → spent_sum ss ≤ length ss * 2 ^ 100
sum_bound [] are = omega arith
sum_bound (s ∷ ss) are = omega (arith, suc-mul (length ss) (2 ^ 100), sum_bound ss are.1, (are.0).few)

all_few : (es : List Entry) → AllByRecursion IsEntry es → spent_sum (all_spent es) ≤ length (all_spent es) * 2 ^ 100
all_few es are = sum_bound (all_spent es) (spent_good es are)
  where
    parts : (xs ys : List Spent) → AllByRecursion IsSpent xs → AllByRecursion IsSpent ys → AllByRecursion IsSpent (xs ++ ys)
    parts [] ys a b = b
    parts (x ∷ xs) ys a b = (a.0, parts xs ys a.1 b)

    spent_good : (es : List Entry) → AllByRecursion IsEntry es → AllByRecursion IsSpent (all_spent es)
    spent_good [] are = tt
    spent_good (e ∷ es) are = parts e.spent (all_spent es) (are.0).spent (spent_good es are.1)

total_small : (sum n : ℕ) → sum ≤ n * 2 ^ 100 → n ≤ 2 ^ 24 → sum < 2 ^ 127
total_small sum n h k = omega arith

-- what is written of entries reads as these
entries_read : (shape : Shaping) (detail : Detail) (year : Option ℕ) (es : List Entry) → IsOwn shape → AllByRecursion IsEntry es → AreShort shape detail (map entry_txn es)
    → items_in year (journal_of shape detail (map entry_txn es)) ≡ Ok (placed 0 1 es)
entries_read shape detail year es own good short =
    ap (items_in year) (journal_is shape detail es own) ∙ reads year es good (short_entries shape detail es own short)

pub plain_reads : (shape : Shaping) (detail : Detail) (year : Option ℕ) (txns : List Txn) → IsOwn shape → ArePlain txns → AreShort shape detail txns → Reads year (journal_of shape detail txns) (numbered 1 txns)
plain_reads shape detail year txns own are short =
    let es = are.entries in
    subst (λ (ts : List Txn). Reads year (journal_of shape detail ts) (numbered 1 ts)) (sym are.is) (record {
      items = placed 0 1 es;
      read = entries_read shape detail year es own are.plain (subst (AreShort shape detail) are.is short);
      are = txns_are 0 1 es;
    })

-- a book that solves items is the one that they are loaded to
abbrev Solving : Type 0
Solving = (items : List Placed) (book : Book) → Solves (txns_of items) book.txns → load items ≡ Ok book

entries_load : (items : List Placed) (es : List Entry) → Solving → AllByRecursion IsEntry es → length (all_spent es) ≤ 2 ^ 24 → txns_of items ≡ numbered 1 (map entry_txn es)
    → load items ≡ Ok (record { txns = numbered 1 (map entry_txn es) })
entries_load items es solving good few is =
    let lined = relined 1 es in
    let same : numbered 1 (map entry_txn es) ≡ map entry_txn lined = relined_is 1 es in
    let bound = total_small (spent_sum (all_spent es)) (length (all_spent es)) (all_few es good) few in
    let solved = solve lined (below (spent_sum (all_spent lined)) (spent_sum (all_spent es)) (relined_total 1 es) bound) in
    solving items (record { txns = numbered 1 (map entry_txn es) })
    (subst (λ (ts : List Txn). Solves ts (numbered 1 (map entry_txn es))) (sym is)
    (subst (λ (ts : List Txn). Solves ts ts) (sym same) solved))
  where
    below : (a b : ℕ) → a ≡ b → b < 2 ^ 127 → a < 2 ^ 127
    below a b e h = omega arith

pub plain_loads : (shape : Shaping) (detail : Detail) (year : Option ℕ) (txns : List Txn) → Solving → IsOwn shape → ArePlain txns → AreShort shape detail txns → Loads year (journal_of shape detail txns) (numbered 1 txns)
plain_loads shape detail year txns solving own are short =
    let es = are.entries in
    let reads = entries_read shape detail year es own are.plain (subst (AreShort shape detail) are.is short) in
    subst (λ (ts : List Txn). Loads year (journal_of shape detail ts) (numbered 1 ts)) (sym are.is)
    (ap (λ (r : Result (List Placed) Fault). r >>= load) reads
    ∙ entries_load (placed 0 1 es) es solving are.plain are.few (txns_are 0 1 es))
