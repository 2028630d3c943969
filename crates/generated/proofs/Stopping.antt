-- Where the reading of rules ends, and what the whole answers then.
use Rattle.std.proofs.Common.{◌≡◌, ℕ, ◌+◌, ◌<◌, List, ◌++◌, length, map, take, drop, get_or, Option, Some, None, Result, Ok, Err, sym, ap, ◌∙◌, subst}
use Rattle.std.proofs.lemmas.List.{take-append-drop, drop_more}
use Rattle.std.proofs.lemmas.Grind.{flat_map-append}
use Rattle.hl_base.specs.Gives.{Gives}
use Rattle.book.specs.declared.fault.Fault.{Fault}
use Rattle.book.specs.declared.item.Book.{Book}
use Rattle.book.specs.declared.item.Placed.{Placed}
use Rattle.book.specs.declared.rules.AutoRule.{AutoRule}
use Rattle.book.specs.declared.transaction.Txn.{Txn}
use Rattle.query_terms.specs.Making.{Stays}
use Rattle.rule_entries.specs.Counted.{excess_over, posting_limit}
use Rattle.rule_entries.specs.declared.counting.Excess.{Excess}
use Rattle.generated.specs.Added.{all_added, with_added}
use Rattle.generated.specs.Auto.{Autos, auto_of, book_by, book_with, letters_of}
use Rattle.generated.specs.Judged.{judged, unless_too_many}
use Rattle.generated.specs.Reading.{ReadsMore}
use Rattle.generated.specs.Refusals.{cause_of}
use Rattle.generated.specs.Queries.{AreRead, Reads, asked_by}
use Rattle.generated.specs.Rules.{IsRefusedRule, auto_in, autos_of, read_rules}
use Rattle.generated.specs.declared.fault.GenFault.{GenFault}
use Rattle.generated.specs.declared.fault.GenFault.TheVariants as gen_fault
use Rattle.generated.specs.declared.rules.RuleQuery.{RuleQuery}
use Rattle.generated.proofs.Readable.{are_read}

pub then_stays : (a b c : ℕ) (x y z : Option (List ℕ)) → Stays a b x y → Stays b c y z → Stays a c x z
then_stays a b c x y z first second = record { count = second.count ∙ first.count; told = second.told ∙ first.told }

-- the rules before an item, at it and behind it
pub autos_at : (items : List Placed) (i : ℕ) (d : Placed) → i < length items
    → autos_of items ≡ autos_of (take i items) ++ (auto_in (get_or items i d).item ++ autos_of (drop (i + 1) items))
autos_at items i d inside =
    ap autos_of (sym (take-append-drop i items))
    ∙ flat_map-append (λ (placed : Placed). auto_in placed.item) (take i items) (drop i items)
    ∙ ap (λ (ps : List Placed). autos_of (take i items) ++ autos_of ps) (drop_more items i d inside)

-- the reading ends at an item
module _ (day : ℕ) (items : List Placed) (i : ℕ) (d : Placed) (old new : List RuleQuery) (start before now : ℕ) (last_start last_before last_now : Option (List ℕ)) where
  pub stopped : (fault : GenFault) → i < length items → AreRead day (autos_of (take i items)) old
      → Stays start before last_start last_before
      → ReadsMore day (auto_in (get_or items i d).item) old before now last_before last_now new (Err fault)
      → Reads day (autos_of items) start now last_start last_now (Err fault)
  stopped gen_fault.Memory inside so stays more = then_stays start before now last_start last_before last_now stays more
  stopped (gen_fault.BadTerm line) inside so stays more = (
    ap (read_rules day) (autos_at items i d inside) ∙ more.0 (autos_of (take i items)) (autos_of (drop (i + 1) items)) so,
    then_stays start before now last_start last_before last_now stays more.1,
  )
  stopped (gen_fault.PatternRefused line) inside so stays more =
      subst (λ (rules : List AutoRule). IsRefusedRule day rules line start now last_now) (sym (autos_at items i d inside))
      (subst (λ (n : ℕ). IsRefusedRule day (autos_of (take i items) ++ (auto_in (get_or items i d).item ++ autos_of (drop (i + 1) items))) line n now last_now)
      stays.count
      (more (autos_of (take i items)) (autos_of (drop (i + 1) items)) so))
  stopped (gen_fault.Journal fault) inside so stays more = absurd more
  stopped (gen_fault.TooMany count limit) inside so stays more = absurd more

-- what is told where reading failed
pub unread : (day : ℕ) (items : List Placed) (txns : List Txn) (before now : ℕ) (last_before last_now : Option (List ℕ)) (fault : GenFault)
    → Reads day (autos_of items) before now last_before last_now (Err fault) → Autos day items txns before now last_before last_now (Err fault)
unread day items txns before now last_before last_now gen_fault.Memory reads = reads
unread day items txns before now last_before last_now (gen_fault.BadTerm line) reads =
    (ap (book_by (letters_of items) txns) reads.0, reads.1)
unread day items txns before now last_before last_now (gen_fault.PatternRefused line) reads = reads
unread day items txns before now last_before last_now (gen_fault.Journal fault) reads = absurd reads
unread day items txns before now last_before last_now (gen_fault.TooMany count limit) reads = absurd reads

-- a book that is judged has no refused pattern
no_pattern : (excess : Option Excess) (told : Result Book Fault) (line : ℕ) → unless_too_many excess told ≡ Err (gen_fault.PatternRefused line) → ⊥
no_pattern None (Ok book) line h = cc h
no_pattern None (Err fault) line h = cc h
no_pattern (Some excess) told line h = cc h

module _ (day : ℕ) (items : List Placed) (txns : List Txn) (reads : List RuleQuery) (before now : ℕ) (last_before last_now : Option (List ℕ)) where
  whole : (answer : Result Book GenFault) → AreRead day (autos_of items) reads
      → book_with (letters_of items) (map asked_by reads) txns ≡ answer → auto_of day items txns ≡ answer
  whole answer so told = ap (book_by (letters_of items) txns) (are_read day (autos_of items) reads so) ∙ told

  -- what is told where all rules are read
  pub autos_told : (result : Result Book GenFault) → AreRead day (autos_of items) reads → Stays before now last_before last_now
      → Gives (λ (book : Book). book) cause_of result (book_with (letters_of items) (map asked_by reads) txns)
      → Autos day items txns before now last_before last_now result
  autos_told (Ok book) so stays told = (whole (Ok book) so told, stays)
  autos_told (Err gen_fault.Memory) so stays told = stays
  autos_told (Err (gen_fault.BadTerm line)) so stays told = (whole (Err (gen_fault.BadTerm line)) so told, stays)
  autos_told (Err (gen_fault.PatternRefused line)) so stays told =
      absurd (no_pattern (excess_over posting_limit (length (all_added (letters_of items) (map asked_by reads) txns)))
      (judged (map (with_added (letters_of items) (map asked_by reads)) txns)) line told)
  autos_told (Err (gen_fault.Journal fault)) so stays told = (whole (Err (gen_fault.Journal fault)) so told, stays)
  autos_told (Err (gen_fault.TooMany count limit)) so stays told = (whole (Err (gen_fault.TooMany count limit)) so told, stays)

  -- the same, where the book and the rules are lent
  pub autos_whole : (result : Result Book GenFault) (slice : List Txn) (lent : List RuleQuery) → slice ≡ txns → lent ≡ reads
      → AreRead day (autos_of items) reads → Stays before now last_before last_now
      → Gives (λ (book : Book). book) cause_of result (book_with (letters_of items) (map asked_by lent) slice)
      → Autos day items txns before now last_before last_now result
  autos_whole result slice lent same is so stays told =
      autos_told result so stays
      (subst (λ (rs : List RuleQuery). Gives (λ (book : Book). book) cause_of result (book_with (letters_of items) (map asked_by rs) txns)) is
      (subst (λ (ts : List Txn). Gives (λ (book : Book). book) cause_of result (book_with (letters_of items) (map asked_by lent) ts)) same told))
