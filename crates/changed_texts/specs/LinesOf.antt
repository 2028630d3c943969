-- The lines that items and faults carry.
use Rattle.std.specs.Prelude.{ℕ, ◌+◌, ◌≤◌, Result, Ok, Err}
use Rattle.std.specs.List.{AllByRecursion}
use Rattle.book.specs.declared.fault.Fault.{Fault}
use Rattle.book.specs.declared.item.Item.{Item}
use Rattle.book.specs.declared.item.Item.TheVariants as item

-- a fault in the line that a function tells for its own
abbrev pub relined_fault : (ℕ → ℕ) → Fault → Fault
relined_fault line f = record f { line = line f.line }

-- What was read, as a function changes it; or its fault, in the line that another function tells for its own.
abbrev pub relined_read : {A : Type 0} → (ℕ → ℕ) → (A → A) → Result A Fault → Result A Fault
relined_read line change (Ok x) = Ok (change x)
relined_read line change (Err fault) = Err (relined_fault line fault)

-- each line that an item carries passes
abbrev pub EachLine : (ℕ → Type 0) → Item → Type 0
EachLine P (item.Txn t) = P t.line × AllByRecursion (λ p. P p.line) t.postings
EachLine P (item.Auto r) = P r.line × AllByRecursion (λ p. P p.posting.line) r.postings
EachLine P (item.Periodic r) = P r.line × AllByRecursion (λ p. P p.line) r.postings
EachLine P item.Gap = Unit {0}
EachLine P item.Block = Unit {0}
EachLine P (item.Price p) = Unit {0}
EachLine P (item.Directive d) = Unit {0}

-- a line from a first one on, and no more than so many behind it
abbrev pub IsNear : ℕ → ℕ → ℕ → Type 0
IsNear first most line = (first ≤ line) × (line ≤ first + most)
