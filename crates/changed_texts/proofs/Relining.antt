-- Items in other lines, by any function of lines.
use Rattle.std.proofs.Common.{◌≡◌, ℕ, List, [], ◌∷◌, map, Result, Ok, Err, refl, arith}
use Rattle.book.specs.declared.fault.Fault.{Fault}
use Rattle.book.specs.declared.item.Item.{Item}
use Rattle.book.specs.declared.item.Item.TheVariants as item
use Rattle.book.specs.declared.rules.AutoRule.{AutoRule}
use Rattle.book.specs.declared.rules.PeriodicRule.{PeriodicRule}
use Rattle.book.specs.declared.rules.RulePosting.{RulePosting}
use Rattle.book.specs.declared.transaction.Posting.{Posting}
use Rattle.entry_reader.specs.Contexts.{directive_in}
use Rattle.moved_lines.specs.Moving.{moved_item, moved_number}
use Rattle.moved_lines.specs.Relined.{relined_posting, relined_txn}
use Rattle.moved_lines.specs.declared.shift.Shift.{Shift}
use Rattle.changed_texts.specs.LinesOf.{relined_read}
use Rattle.changed_texts.proofs.Late.{later}

abbrev pub relined_rule : (ℕ → ℕ) → RulePosting → RulePosting
relined_rule line r = record r { posting = relined_posting line r.posting }

abbrev pub relined_auto : (ℕ → ℕ) → AutoRule → AutoRule
relined_auto line r = record r { line = line r.line; postings = map (relined_rule line) r.postings }

abbrev pub relined_periodic : (ℕ → ℕ) → PeriodicRule → PeriodicRule
relined_periodic line r = record r { line = line r.line; postings = map (relined_posting line) r.postings }

abbrev pub relined_item : (ℕ → ℕ) → Item → Item
relined_item line (item.Txn t) = item.Txn (relined_txn line t)
relined_item line (item.Auto r) = item.Auto (relined_auto line r)
relined_item line (item.Periodic r) = item.Periodic (relined_periodic line r)
relined_item line item.Gap = item.Gap
relined_item line item.Block = item.Block
relined_item line (item.Price p) = item.Price p
relined_item line (item.Directive d) = item.Directive d

-- a directive has no lines
pub directive-stays : (by : Shift) (i : Item) → directive_in (moved_item by i) ≡ directive_in i
directive-stays by (item.Txn t) = refl
directive-stays by (item.Auto r) = refl
directive-stays by (item.Periodic r) = refl
directive-stays by item.Gap = refl
directive-stays by item.Block = refl
directive-stays by (item.Price p) = refl
directive-stays by (item.Directive d) = refl

-- ---- one change of lines after another

twice : {X : Type 0} (f g h : X → X) → ((x : X) → g (f x) ≡ h x) → (xs : List X) → map g (map f xs) ≡ map h xs
twice f g h e [] = refl
twice f g h e (x ∷ xs) = λ i. e x i ∷ twice f g h e xs i

further : (by : Shift) (l : ℕ) → moved_number by (later by.removed l) ≡ later by.added l
further by l = omega arith

posting-further : (by : Shift) (p : Posting) → relined_posting (moved_number by) (relined_posting (later by.removed) p) ≡ relined_posting (later by.added) p
posting-further by p = λ i. record p { line = further by p.line i }

rule-further : (by : Shift) (r : RulePosting) → relined_rule (moved_number by) (relined_rule (later by.removed) r) ≡ relined_rule (later by.added) r
rule-further by r = λ i. record r { posting = posting-further by r.posting i }

postings-further : (by : Shift) (ps : List Posting) → map (relined_posting (moved_number by)) (map (relined_posting (later by.removed)) ps) ≡ map (relined_posting (later by.added)) ps
postings-further by ps = twice (relined_posting (later by.removed)) (relined_posting (moved_number by)) (relined_posting (later by.added)) (posting-further by) ps

rules-further : (by : Shift) (rs : List RulePosting) → map (relined_rule (moved_number by)) (map (relined_rule (later by.removed)) rs) ≡ map (relined_rule (later by.added)) rs
rules-further by rs = twice (relined_rule (later by.removed)) (relined_rule (moved_number by)) (relined_rule (later by.added)) (rule-further by) rs

item-further : (by : Shift) (i : Item) → moved_item by (relined_item (later by.removed) i) ≡ relined_item (later by.added) i
item-further by (item.Txn t) = λ i. item.Txn (record t { line = further by t.line i; postings = postings-further by t.postings i })
item-further by (item.Auto r) = λ i. item.Auto (record r { line = further by r.line i; postings = rules-further by r.postings i })
item-further by (item.Periodic r) = λ i. item.Periodic (record r { line = further by r.line i; postings = postings-further by r.postings i })
item-further by item.Gap = refl
item-further by item.Block = refl
item-further by (item.Price p) = refl
item-further by (item.Directive d) = refl

pub read-further : (by : Shift) (r : Result Item Fault) → relined_read (moved_number by) (moved_item by) (relined_read (later by.removed) (relined_item (later by.removed)) r) ≡ relined_read (later by.added) (relined_item (later by.added)) r
read-further by (Ok x) = λ i. Ok (item-further by x i)
read-further by (Err fault) = λ i. Err (record fault { line = further by fault.line i })
